use Rattle.std.proofs.Common.{◌≡◌, Ok, sym, ◌∙◌, subst, rules}
use Rattle.fault.proofs.Passed.{passed_filled}
use Rattle.translation.specs.Tables.{image}
use Rattle.translation.specs.Files.{codes_of, rows_of, translation_check, translation_of, file_image, ByItsRow}
use Rattle.translation.proofs.Agrees.{table_is, agrees, agrees_by_row}
use Rattle.translation.proofs.load.load_translation.Goals as goal

pub returns : goal.returns
returns c =
    let b = c.args.bytes.now in
    let r = c.in_ok-rows.rows in
    let v : Ok tt ≡ translation_check b = search rules in
    let p : r.codes.now ≡ codes_of b = search rules in
    let q : r.rows.now ≡ rows_of b = search rules in
    let e = table_is b r.codes.now r.rows.now _ p q c.table.ensures v in
    record {
      verdict = v;
      place = e ∙ passed_filled (translation_check b) (translation_of b) _ v;
      means = λ _ k. subst (λ t. image t k ≡ file_image b k) (sym e) (agrees b v k);
      rows = λ _ k. subst (λ t. ByItsRow b k (image t k)) (sym e) (agrees_by_row b v k);
    }
