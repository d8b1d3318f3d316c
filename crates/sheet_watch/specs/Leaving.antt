-- The leaving-out law of a sheet's watch.
use Rattle.std.specs.Prelude.{ℕ, Bool, List}
use Rattle.action.specs.declared.deed.Deed.{Deed}
use Rattle.action.specs.Traces.{Sub}
use Rattle.action.proofs.Traces.{sub_trans}
use Rattle.sheet.specs.declared.diagram.Fragment.{Fragment}
use Rattle.followers.specs.Next.{Nexts}
use Rattle.machine.specs.Pairs.{May}
use Rattle.sheet_watch.specs.Watching.{Within}

pub leaving_out : (F : ℕ → Fragment) (follow : ℕ → Nexts) (b : Bool) (may : May) (s l : List Deed) → Sub s l → Within F follow b may s → Within F follow b may l
leaving_out F follow b may s l sub (k, h, t) = (k, h, sub_trans t sub)
