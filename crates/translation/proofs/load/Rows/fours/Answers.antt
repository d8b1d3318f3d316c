use Rattle.std.proofs.Common.{◌≡◌, ℕ, ◌+◌, ◌*◌, ◌-◌, ◌<◌, List, take, drop, get_or, [], ap₂, ◌∙◌, arith}
use Rattle.std.specs.Simd.{first_chunks}
use Rattle.translation.specs.Files.{four_of}
use Rattle.fault.proofs.Chunks.{chunk_at}
use Rattle.translation.proofs.load.Rows.fours.Goals as goal

cut : (rows : List ℕ) (k i : ℕ) → i < k → get_or (first_chunks 4 k rows) i [] ≡ four_of rows i
cut rows k i l =
    let n : 4 ≡ 4 * i + 4 - 4 * i = omega arith in
    let m : i * 4 ≡ 4 * i = omega arith in
    chunk_at 4 k rows i [] l ∙ ap₂ (λ a b. take a (drop b rows)) n m

pub returns-clause-each : goal.returns-clause-each
returns-clause-each c = λ i l. rw c.as_chunks.ensures.front (cut c.args.self.now.rows.now _ i (omega (arith, c.as_chunks.ensures.front_len)))
