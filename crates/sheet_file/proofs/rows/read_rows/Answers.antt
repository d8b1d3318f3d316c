use Rattle.std.proofs.Common.{◌≡◌, ℕ, ◌<◌, ◌≤◌, ◌/◌, length, length-append, arith, ◌∙◌}
use Rattle.std.specs.Simd.{first_chunks}
use Rattle.std.proofs.lemmas.Iterator.{YieldsList-from_slice, YieldsList-from_zip}
use Rattle.std.proofs.lemmas.Iterator.Consumers.{YieldsList-from_enumerate, YieldsList-turn, YieldsList-end}
use Rattle.std.proofs.lemmas.Result.{err_from_is_err_and}
use Rattle.sheet_file.proofs.RowsRead.{read_none, read_more, read_stop, read_all, items_size, read_here}
use Rattle.sheet_file.proofs.rows.read_rows.Goals as goal

under : {m n : ℕ} → m < n → n ≤ 64 → m < 64
under l h = omega arith

pub loop-i-init : goal.loop-i-init
loop-i-init c = read_none c.args.kinds.now c.args.bytes.now

pub loop-i-preserved : goal.loop-i-preserved
loop-i-preserved c =
    let kinds = c.args.kinds.now in
    let bytes = c.args.bytes.now in
    let count : length bytes / 8 ≡ length kinds = omega (arith, c.requires.eight) in
    let few : length kinds ≤ 64 = c.requires.few in
    let road = YieldsList-from_enumerate (YieldsList-from_zip (YieldsList-from_slice kinds (cc)) (YieldsList-from_slice (first_chunks 8 (length bytes / 8) bytes) (cc))) cc in
    let turn = YieldsList-turn road c.loop-i.yielded c.loop-i.i-iterator c.loop-i.yielded_by c.next.result c.next.new.self (c.in-Some.i, (c.in-Some.kind, c.in-Some.row)) c.in-Some.is c.next.ensures.steps in
    let h = read_here kinds bytes c.in-Some.i (length c.loop-i.yielded) (length bytes / 8) c.in-Some.kind.now c.in-Some.row.now count turn.0 turn.1 in
    let below : length c.loop-i.yielded < 64 = under h.3 few in
    read_more kinds bytes c.in-Some.i (length c.loop-i.yielded) c.in-Some.kind.now c.in-Some.row.now h.0 h.1 h.2 c.loop-i.fragments c.loop-i.invariant _ _ below c.in_ok-fragments.ensures (length-append c.loop-i.yielded _)

pub returns-in_err-fragments : goal.returns-in_err-fragments
returns-in_err-fragments c =
    let kinds = c.args.kinds.now in
    let bytes = c.args.bytes.now in
    let count : length bytes / 8 ≡ length kinds = omega (arith, c.requires.eight) in
    let road = YieldsList-from_enumerate (YieldsList-from_zip (YieldsList-from_slice kinds (cc)) (YieldsList-from_slice (first_chunks 8 (length bytes / 8) bytes) (cc))) cc in
    let turn = YieldsList-turn road c.loop-i.yielded c.loop-i.i-iterator c.loop-i.yielded_by c.next.result c.next.new.self (c.in-Some.i, (c.in-Some.kind, c.in-Some.row)) c.in-Some.is c.next.ensures.steps in
    let h = read_here kinds bytes c.in-Some.i (length c.loop-i.yielded) (length bytes / 8) c.in-Some.kind.now c.in-Some.row.now count turn.0 turn.1 in
    let p = err_from_is_err_and c.from_residual.result c.from_residual.ensures.1 in
    rw (p.1, p.2) (read_stop kinds bytes c.in-Some.i (length c.loop-i.yielded) c.in-Some.kind.now c.in-Some.row.now h.0 h.1 h.2 c.loop-i.fragments c.loop-i.invariant _ h.3 c.in_err-fragments.ensures)

pub returns : goal.returns
returns c =
    let kinds = c.args.kinds.now in
    let bytes = c.args.bytes.now in
    let count : length bytes / 8 ≡ length kinds = omega (arith, c.requires.eight) in
    let road = YieldsList-from_enumerate (YieldsList-from_zip (YieldsList-from_slice kinds (cc)) (YieldsList-from_slice (first_chunks 8 (length bytes / 8) bytes) (cc))) cc in
    let end = YieldsList-end road c.loop-i.yielded c.loop-i.i-iterator c.loop-i.yielded_by c.next.result c.next.new.self c.in-None.is c.next.ensures.steps in
    read_all kinds bytes c.loop-i.fragments (length c.loop-i.yielded) (end.1 ∙ items_size kinds bytes (length bytes / 8) count) c.loop-i.invariant
