-- How the recursions over the index read: each fragment from its parts.
use Rattle.std.proofs.Common.{◌≡◌, ℕ, ◌<◌, sym, refl, ap, ◌∙◌, subst, ap₂}
use Rattle.sheet.specs.declared.diagram.Fragment.{Fragment}
use Rattle.sheet.specs.declared.diagram.Fragment.TheVariants.{Skip, Seq, Alt, Loop, Neg}
use Rattle.sheet.specs.declared.marks.Marks.{Marks}
use Rattle.sheet.specs.Meaning.{Runs, Never, Of, Then, Either, Rounds, Marked, meaning}
use Rattle.sheet.specs.Empties.{nothing, both, either, must, any, empty_of, empty_at}
use Rattle.sheet.specs.Laws.{Earlier, MeaningReads}
use Rattle.sheet.proofs.Index.{lower_is}

of_same : (f : Fragment) (i : ℕ) (R S : ℕ → Runs) → Earlier f i → ((j : ℕ) → j < i → R j ≡ S j) → Of f R ≡ Of f S
of_same Skip i R S h e = refl
of_same (Fragment.Step s) i R S h e = refl
of_same (Seq l r) i R S h e = ap₂ Then (e l h.0) (e r h.1)
of_same (Alt l r) i R S h e = ap₂ Either (e l h.0) (e r h.1)
of_same (Loop b) i R S h e = ap (λ (B : Runs). Rounds B) (e b h)
of_same (Neg b) i R S h e = ap Marked (e b h)

pub meaning_is : (F : ℕ → Fragment) (i : ℕ) → Earlier (F i) i → meaning F i ≡ Of (F i) (meaning F)
meaning_is F i h = of_same (F i) i _ _ h (λ j l. lower_is Never (λ i R. Of (F i) R) i j l)

pub meaning_reads : MeaningReads
meaning_reads F i h v l u m =
    let e = meaning_is F i h in
    (λ x. subst (λ (R : Runs). R v l u m) e x, λ x. subst (λ (R : Runs). R v l u m) (sym e) x)

empty_same : (f : Fragment) (i : ℕ) (R S : ℕ → Marks) → Earlier f i → ((j : ℕ) → j < i → R j ≡ S j) → empty_of f R ≡ empty_of f S
empty_same Skip i R S h e = refl
empty_same (Fragment.Step s) i R S h e = refl
empty_same (Seq l r) i R S h e = ap₂ both (e l h.0) (e r h.1)
empty_same (Alt l r) i R S h e = ap₂ either (e l h.0) (e r h.1)
empty_same (Loop b) i R S h e = ap any (e b h)
empty_same (Neg b) i R S h e = ap must (e b h)

-- of a fragment that is known to be f
pub empty_is : (F : ℕ → Fragment) (i : ℕ) (f : Fragment) → F i ≡ f → Earlier (F i) i → empty_of f (empty_at F) ≡ empty_at F i
empty_is F i f e h =
    ap (λ (g : Fragment). empty_of g (empty_at F)) (sym e)
    ∙ sym (empty_same (F i) i _ _ h (λ j l. lower_is nothing (λ i N. empty_of (F i) N) i j l))
