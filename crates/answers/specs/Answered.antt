-- What deeds are answered under a sheet, over a new board.
use Rattle.std.specs.Prelude.{◌≡◌, ℕ, ◌≤◌, false, List}
use Rattle.action.specs.declared.deed.Deed.{Deed}
use Rattle.action.specs.Deeds.{signal}
use Rattle.action.specs.Ranges.{highest_kind}
use Rattle.action.specs.Traces.{tally}
use Rattle.sheet.specs.declared.diagram.Diagram.{Diagram}
use Rattle.sheet.specs.Forbid.{Forbids}
use Rattle.host.specs.declared.board.Board.{Board}
use Rattle.host.specs.Boards.{most, counted}
use Rattle.gate.specs.declared.closed.Closed.{Closed}
use Rattle.gate.specs.Words.{Word}
use Rattle.gate.specs.Ledger.{Known, submits, done_of, stop_of}
use Rattle.gate.specs.Promise.{RepliesAsFresh, BarsAndDoesExactly, RestNeverStops}

-- what a new board can do
abbrev pub Few : List Deed → Type 0
Few l = (k : ℕ) → k ≤ highest_kind → tally signal k l ≤ most

-- what a ledger knows of the diagram d and a new board
abbrev pub known_of : Diagram → Known Deed
known_of d = record { forbids = Forbids d; can = Few; counts = λ _. 0; kind = signal }

-- the deeds ds, submitted in order under the diagram d, are answered ws, and leave the closed gate g
pub record Answered (d : Diagram) (ds : List Deed) (ws : List Word) (g : Closed (Board Deed)) : Type 0 where
  -- as by a ledger that knows what the diagram forbids and what a new board can do
  pub ledger : RepliesAsFresh (known_of d) (submits ds) ws
  pub decided : BarsAndDoesExactly (Forbids d) Few false (submits ds) ws
  pub shortened : RestNeverStops (Forbids d) signal (done_of (submits ds) ws)
  pub stopped : g.stopped ≡ stop_of false (submits ds) ws
  -- the board counts the done deeds
  pub counted : (k : ℕ) → counted g.host.counts k ≡ tally signal k (done_of (submits ds) ws)
