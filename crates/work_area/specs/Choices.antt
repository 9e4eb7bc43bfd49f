-- Choices between rows.
use Rattle.std.specs.Prelude.{◌≡◌}
use Rattle.affine_systems.specs.declared.items.Item.{Item}
use Rattle.affine_systems.specs.Items.{item, false_item}
use Rattle.affine_systems.specs.Normal.{Normal, Kept, Always, Never, TooBig}
use Rattle.work_area.specs.declared.sorting.Choice.{Choice}
use Rattle.work_area.specs.declared.sorting.Choice.TheVariants.{One, Other, Neither}
use Rattle.work_area.specs.declared.forming.Fate.{Fate}
use Rattle.work_area.specs.declared.forming.Fate.TheVariants.{Stays, Goes, Lost}

abbrev pub strongest : Choice → Item → Item → Item
strongest One i j = i
strongest Other i j = j
strongest Neither i j = false_item

-- what a row becomes by its normal form: it stays, as that or as 0 <= -1, it goes, or it is lost
abbrev pub Settles : Normal → Fate → Item → Item → Type 0
Settles (Kept r) f old new = (f ≡ Stays) × (new ≡ item r old.originals old.made)
Settles Always f old new = f ≡ Goes
Settles Never f old new = (f ≡ Stays) × (new ≡ false_item)
Settles TooBig f old new = f ≡ Lost
