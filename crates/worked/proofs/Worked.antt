-- A worked case from what is worked out.
use Rattle.std.proofs.Common.{◌≡◌, ℕ, ◌≤◌, Bool, true, false, T, List, [], map, length, Ok, sym, refl, ap, ◌∙◌, subst, arith}
use Rattle.action.specs.declared.deed.Deed.{Deed}
use Rattle.action.specs.Deeds.{signal}
use Rattle.action.specs.Traces.{none}
use Rattle.sheet.specs.declared.diagram.Variables.{Variables}
use Rattle.sheet.specs.Meaning.{Skips, Rounds, stop, round}
use Rattle.sheet.specs.Forbid.{Forbids}
use Rattle.sheet.specs.Rules.{accepted}
use Rattle.sheet_file.specs.Sheets.{diagram_of, sheet_verdict}
use Rattle.gate.specs.Words.{answer}
use Rattle.gate.specs.Ledger.{opening}
use Rattle.gate.proofs.Agreeing.{same_ledgers}
use Rattle.worked.specs.Sheets.{sheet_7, sheet_8}
use Rattle.worked.specs.Cases.{known_of, Answers}
use Rattle.worked.proofs.Search.{found, found_right}
use Rattle.worked.proofs.Ledgers.{numbers, runs}

pub answers : (b : List ℕ) (ds : List Deed) (ns : List ℕ) → sheet_verdict b ≡ Ok tt → accepted (diagram_of b) ≡ true → length ds ≤ 999 → ns ≡ numbers (found (diagram_of b)) (opening false) ds → Answers b ds ns
answers b ds ns ok good short e =
    let all = runs (Forbids (diagram_of b)) signal (found (diagram_of b)) (found_right (diagram_of b) good) (opening false) ds (omega arith) in
    record {
      accepted = ok;
      answered = rw e all;
      only = λ ws M r. (same_ledgers (known_of b) (known_of b) (λ l. (λ p. p, λ p. p)) (λ l. (λ p. p, λ p. p)) (λ k. refl) refl (opening false) M all.0 _ ws _ r all.1).0 ∙ ap (map answer) (sym e);
    }

pub seven_forbids : Forbids (diagram_of sheet_7) []
seven_forbids = ([], (record { x = 0; y = 0 }, round ((false, (refl, refl, refl)), refl) stop), none)

-- rounds of skip mark nothing
unmarked : {v u : Variables} {l : List Deed} {m : Bool} → Rounds Skips v l u m → m ≡ false
unmarked stop = refl
unmarked (round (a, b, c) rest) = let e = unmarked rest in cc

pub eight_never : (l : List Deed) → Forbids (diagram_of sheet_8) l → ⊥
eight_never l (s, (u, x), sub) = let z : true ≡ false = unmarked x in subst T z tt
