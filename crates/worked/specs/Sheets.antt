-- The sheets of the worked cases, each as its bytes.
use Rattle.std.specs.Prelude.{ℕ, List, [], ◌∷◌, ◌++◌}

-- how many fragments and steps, and the starts of x and y
abbrev pub header : ℕ → ℕ → ℕ → ℕ → List ℕ
header n k x y = n ∷ k ∷ x ∷ y ∷ []

abbrev pub row : ℕ → ℕ → ℕ → ℕ → ℕ → ℕ → ℕ → ℕ → List ℕ
row a b c d e f g h = a ∷ b ∷ c ∷ d ∷ e ∷ f ∷ g ∷ h ∷ []

-- the row of a step to the partner 0, with no comparison and no target
abbrev pub plain : ℕ → List ℕ
plain s = row 0 s 0 0 0 0 0 0

-- the row of a fragment that names parts
abbrev pub parts : ℕ → ℕ → List ℕ
parts a b = row a b 0 0 0 0 0 0

-- neg(step 3)
abbrev pub sheet_1 : List ℕ
sheet_1 = header 2 1 0 0 ++ (1 ∷ 5 ∷ []) ++ plain 3 ++ parts 0 0

-- seq(neg(step 3), step 4)
abbrev pub sheet_2 : List ℕ
sheet_2 = header 4 2 0 0 ++ (1 ∷ 5 ∷ 1 ∷ 2 ∷ []) ++ plain 3 ++ parts 0 0 ++ plain 4 ++ parts 1 2

-- loop(alt(step 5 if x at most 2, x becomes x + 1; neg(step 5 if x greater 2)))
abbrev pub sheet_3 : List ℕ
sheet_3 = header 5 2 0 0 ++ (1 ∷ 1 ∷ 5 ∷ 3 ∷ 4 ∷ []) ++ row 0 5 16 4 2 1 16 1 ++ row 0 5 16 5 2 0 0 0 ++ parts 1 0 ++ parts 0 2 ++ parts 3 0

-- seq(step 1, x becomes first argument; neg(step 2 if first argument equal x))
abbrev pub sheet_4 : List ℕ
sheet_4 = header 4 2 0 0 ++ (1 ∷ 1 ∷ 5 ∷ 2 ∷ []) ++ row 0 1 0 0 0 1 18 0 ++ row 0 2 18 1 16 0 0 0 ++ parts 1 0 ++ parts 0 2

-- alt of seq(loop(step 1, x becomes x + 1), neg(step 1 if x at least 2)) and the same with signal 2
abbrev pub sheet_5 : List ℕ
sheet_5 =
    header 11 4 0 0 ++ (1 ∷ 4 ∷ 1 ∷ 5 ∷ 2 ∷ 1 ∷ 4 ∷ 1 ∷ 5 ∷ 2 ∷ 3 ∷ [])
    ++ row 0 1 0 0 0 1 16 1 ++ parts 0 0 ++ row 0 1 16 6 2 0 0 0 ++ parts 2 0 ++ parts 1 3
    ++ row 0 2 0 0 0 1 16 1 ++ parts 5 0 ++ row 0 2 16 6 2 0 0 0 ++ parts 7 0 ++ parts 6 8
    ++ parts 4 9

-- seq(step 1, x becomes x + 1; neg(step 2)), from x
abbrev pub sheet_6 : ℕ → List ℕ
sheet_6 x = header 4 2 x 0 ++ (1 ∷ 1 ∷ 5 ∷ 2 ∷ []) ++ row 0 1 0 0 0 1 16 1 ++ plain 2 ++ parts 1 0 ++ parts 0 2

-- loop(neg(skip))
abbrev pub sheet_7 : List ℕ
sheet_7 = header 3 0 0 0 ++ (0 ∷ 5 ∷ 4 ∷ []) ++ parts 0 0 ++ parts 0 0 ++ parts 1 0

-- loop(skip)
abbrev pub sheet_8 : List ℕ
sheet_8 = header 2 0 0 0 ++ (0 ∷ 4 ∷ []) ++ parts 0 0 ++ parts 0 0
