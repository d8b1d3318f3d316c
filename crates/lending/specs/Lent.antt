-- What came of a gate that is gone, as its owner sees it.
use Rattle.std.specs.Prelude.{List, ◌++◌, length, drop}

-- a list whose first places took the actions d, in order, and whose later places keep what they held
abbrev pub after_done : {X : Type 0} → List X → List X → List X
after_done l d = d ++ drop (length d) l
