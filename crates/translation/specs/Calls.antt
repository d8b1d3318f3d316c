-- What a translated watch forbids.
use Rattle.std.specs.Prelude.{List}
use Rattle.action.specs.declared.deed.Deed.{Deed}
use Rattle.action.specs.declared.call.Call.{Call}
use Rattle.watch.specs.Shown.{shown}
use Rattle.translation.specs.declared.translation.Translation.{Translation}
use Rattle.translation.specs.declared.translated.Translated.{Translated}
use Rattle.translation.specs.Tables.{image}

-- the translation of a list of calls: a call without a row becomes no deed at all
abbrev pub deeds_of : Translation → List Call → List Deed
deeds_of t l = shown (image t) l

abbrev pub translated_forbids : {W : Type 0} → (W → List Deed → Type 0) → Translated W → List Call → Type 0
translated_forbids F w l = F w.below (deeds_of w.table l)
