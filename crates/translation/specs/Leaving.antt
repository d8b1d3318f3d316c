-- A sub-trace of calls becomes a sub-trace of deeds, so the law of the watch below is the law of the watch over it.
use Rattle.std.specs.Prelude.{List}
use Rattle.action.specs.declared.deed.Deed.{Deed}
use Rattle.watch.specs.Meaning.{LeavesOut}
use Rattle.watch.specs.Leaving.{shown_leaves}
use Rattle.translation.specs.declared.translated.Translated.{Translated}
use Rattle.translation.specs.Tables.{image}
use Rattle.translation.specs.Calls.{translated_forbids}

pub translated_leaves : {W : Type 0} (F : W → List Deed → Type 0) (w : Translated W) → LeavesOut (F w.below) → LeavesOut (translated_forbids F w)
translated_leaves F w law = shown_leaves (image w.table) (F w.below) law
