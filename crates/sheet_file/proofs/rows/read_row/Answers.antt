use Rattle.std.proofs.Common.{◌≡◌, Bool, true, false, not, cond, Some, None, refl, ap, ◌∙◌}
use Rattle.std.specs.Option.{ok_or}
use Rattle.fault.specs.declared.fault.Fault.{Fault}
use Rattle.fault.specs.declared.fault.Fault.TheVariants.{FragmentRow}
use Rattle.fault.specs.Checks.{refuse_if, or_fault}
use Rattle.sheet.specs.declared.diagram.Fragment.{Fragment}
use Rattle.sheet_file.specs.Rows.{row_fits, fragment_of}
use Rattle.sheet_file.proofs.rows.read_row.Goals as goal

refused : (f : Fault) (x : Fragment) (b : Bool) → ok_or (cond b (Some x) None) f ≡ or_fault (refuse_if f (not b)) x
refused f x true = refl
refused f x false = refl

pub returns : goal.returns
returns c =
    let row = c.args.row.now in
    c.ok_or.ensures.value ∙ (ap (λ o. ok_or o (FragmentRow c.args.i)) c.read_fragment.ensures ∙ refused (FragmentRow c.args.i) (fragment_of c.args.kind row) (row_fits c.args.kind row))
