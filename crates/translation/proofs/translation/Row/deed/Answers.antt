use Rattle.std.proofs.Common.{◌≡◌, ℕ, ◌%◌, ◌∙◌, mod-eq_of_lt, arith}
use Rattle.action.specs.declared.call.Call.{Call}
use Rattle.action.specs.Deeds.{reading}
use Rattle.translation.specs.declared.translation.Row.{Row}
use Rattle.translation.specs.Tables.{argument, deed_by}
use Rattle.translation.proofs.Ranged.{argument_low}
use Rattle.translation.proofs.translation.Row.deed.Goals as goal

-- what a selector takes is read as it is
taken : (s : ℕ) (c : Call) (x : ℕ) → x ≡ argument s c → x % 16 ≡ argument s c
taken s c x e = let l = argument_low s c in rw e (mod-eq_of_lt (omega arith))

made : (r : Row) (c : Call) (x y : ℕ) → x ≡ argument (r.first % 4) c → y ≡ argument (r.second % 4) c → reading r.address r.signal x y ≡ deed_by r c
made r c x y p q = rw (taken (r.first % 4) c x p, taken (r.second % 4) c y q)

pub returns : goal.returns
returns c = c.reading.ensures ∙ made c.args.self.now c.args.call.now _ _ c.selected-first.ensures c.selected-second.ensures
