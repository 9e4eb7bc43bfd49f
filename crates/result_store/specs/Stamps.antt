-- Tests whether what values were made from is the same: cited by private functions alone.
use Rattle.std.specs.Prelude.{Bool, true, false, ◌&&◌, nat_eq, bytes_eq}
use Rattle.pipsmake_rules.specs.Kinds.{same_kind}
use Rattle.pipsmake_meaning.specs.MemoCells.{Stamped}
use Rattle.pipsmake_meaning.specs.Values.{Item, text, result}

abbrev pub same_item : Item → Item → Bool
same_item text text = true
same_item text (result k) = false
same_item (result k) text = false
same_item (result j) (result k) = same_kind j k

abbrev pub same_stamped : Stamped → Stamped → Bool
same_stamped a b = same_item a.item b.item && (bytes_eq a.name b.name && nat_eq a.stamp b.stamp)
