-- Results that are up to date are kept as they are defined.
use Rattle.std.proofs.Common.{◌≡◌, ℕ, true, List, Option, Some, None, refl, sym, ap, ◌∙◌, subst}
use Rattle.pipsmake_db.specs.pipsmake_rules.declared.kind.Kind.{Kind}
use Rattle.pipsmake_db.specs.pipsmake_rules.declared.kind.Kind.TheVariants as kind
use Rattle.pipsmake_db.specs.pipsmake_rules.declared.key.Key.{Key}
use Rattle.pipsmake_db.specs.pipsmake_rules.Neighbours.{has_name}
use Rattle.pipsmake_db.specs.roundtrip_programs.Laws.{TablesIgnorePlaces, GraphsIgnorePlaces}
use Rattle.call_graph.specs.CallsIn.{Each}
use Rattle.pipsmake_db.specs.pipsmake_meaning.Definitions.{definition}
use Rattle.pipsmake_db.specs.laws_database.Laws.{AreLinked, CanMake, walk_in, IsDefined}
use Rattle.pipsmake_db.specs.laws_database.Unverified.{IsStored}
use Rattle.pipsmake_db.specs.pipsmake_meaning.Session.{Makings, UpToDate, made_now}
use Rattle.pipsmake_db.specs.pipsmake_meaning.MemoCells.{MemoCells, Kept, value_under, kept_of}
use Rattle.pipsmake_db.specs.laws_database.Stands.{KeptStands, StandsFor}
use Rattle.pipsmake_db.specs.pipsmake_meaning.Texts.{ModuleText, AreModules, names_in}
use Rattle.pipsmake_db.specs.pipsmake_meaning.Values.{Value, result}
use Rattle.pipsmake_db.proofs.LawsDatabase.Stamps.{SameNeeds}
use Rattle.pipsmake_db.proofs.LawsDatabase.Whole.{same_for, walk_can}
use Rattle.pipsmake_db.specs.declared.db.Db.{Db}
use Rattle.pipsmake_db.specs.Calls.{Makes}
use Rattle.pipsmake_db.specs.State.{State, texts_of, memo_cells_in, IsIn}
use Rattle.pipsmake_db.proofs.ShowLaws.{asked_defined}
use Rattle.pipsmake_base.proofs.StoredCan.{current_can}
use Rattle.pipsmake_db.proofs.UpToDate.{walk_is_current}
use Rattle.call_graph.proofs.EachLaws.{each_both, each_more}

can_stored : (ts : List ModuleText) (k : Kind) (x : List ℕ) → IsStored k → AreLinked ts × (has_name (names_in ts) x ≡ true) → CanMake ts k x
can_stored ts kind.Parsed x s c = absurd s
can_stored ts kind.Lines x s c = absurd s
can_stored ts kind.Symbols x s c = absurd s
can_stored ts kind.CallGraph x s c = absurd s
can_stored ts kind.Effects x s c = c
can_stored ts kind.Transformers x s c = c
can_stored ts kind.Preconditions x s c = c
can_stored ts kind.Regions x s c = c
can_stored ts kind.InRegions x s c = c
can_stored ts kind.OutRegions x s c = c
can_stored ts kind.Marks x s c = c
can_stored ts kind.Printed x s c = absurd s

-- a kept result that is up to date
module _ (tables_law : TablesIgnorePlaces) (graphs_law : GraphsIgnorePlaces) (sh : MemoCells) (ts : List ModuleText) (made : Makings) (stands : StandsFor sh ts made) (k : Key) (u : UpToDate made ts k) where
  abbrev At : Option Kept → Option (List ModuleText) → Type 0
  At o m = KeptStands sh k o m

  found : (o : Option Kept) (m : Option (List ModuleText)) → (sh (result k.kind) k.name).kept ≡ o → m ≡ Some u.old → At o m → (v : Value) × AreModules u.old × (definition u.old k.kind k.name ≡ Some v) × (kept_of sh k.kind k.name ≡ Some v)
  found None None p q w = cc
  found None (Some old) p q w = absurd w
  found (Some kept) None p q w = absurd w
  found (Some kept) (Some old) p q w =
      let same : old ≡ u.old = cc in
      (w.value, subst AreModules same w.modules, ap (λ us. definition us k.kind k.name) (sym same) ∙ w.is, ap (value_under (sh (result k.kind) k.name).values) p ∙ w.at)

  here : (v : Value) × AreModules u.old × (definition u.old k.kind k.name ≡ Some v) × (kept_of sh k.kind k.name ≡ Some v)
  here = found ((sh (result k.kind) k.name).kept) (made k.kind k.name) refl u.was_made (stands.kept k.kind k.name)

  needs_are : SameNeeds u.old ts k
  needs_are = record { text = u.text; needs = u.needs; values = u.values }

  defined_now : CanMake ts k.kind k.name → definition ts k.kind k.name ≡ Some here.0
  defined_now can = same_for tables_law graphs_law u.old ts here.1 stands.modules k.kind k.name can here.0 here.2 needs_are

  pub kept_is_defined : CanMake ts k.kind k.name → IsDefined sh ts k
  kept_is_defined can = here.3 ∙ sym (defined_now can)

  -- of a stored kind it has a value, which is what is defined
  pub stored_value : IsStored k.kind → (v : Value) × (definition ts k.kind k.name ≡ Some v) × (kept_of sh k.kind k.name ≡ Some v)
  stored_value s = (here.0, defined_now (can_stored ts k.kind k.name s (current_can u.old ts here.1 k.kind k.name here.0 s here.2 needs_are)), here.3)

-- a result that was asked for
module _ (tables_law : TablesIgnorePlaces) (graphs_law : GraphsIgnorePlaces) (old new : Db) (k : Key) (now : List Key) (m : Makes old new k now) (s : State) (i : IsIn old s) (can : CanMake (texts_of old) k.kind k.name) where
  pub made_is_defined : kept_of (memo_cells_in new) k.kind k.name ≡ definition (texts_of old) k.kind k.name
  made_is_defined =
      let l = m.leads s i in
      let ms = i.stands.modules in
      let can_now : CanMake s.texts k.kind k.name = subst (λ ts. CanMake ts k.kind k.name) i.texts can in
      let ups = walk_is_current s.made s.texts (walk_in s.texts k) now l.made in
      let cans = walk_can s.texts ms k can_now in
      let all : Each (IsDefined (memo_cells_in new) s.texts) (walk_in s.texts k) =
      each_more (λ j. UpToDate (made_now s.made s.texts now) s.texts j × CanMake s.texts j.kind j.name) (IsDefined (memo_cells_in new) s.texts) (walk_in s.texts k)
      (λ j p. kept_is_defined tables_law graphs_law (memo_cells_in new) s.texts (made_now s.made s.texts now) l.next.stands j p.0 p.1)
      (each_both (UpToDate (made_now s.made s.texts now) s.texts) (λ (j : Key). CanMake s.texts j.kind j.name) (walk_in s.texts k) ups cans) in
      asked_defined (memo_cells_in new) s.texts k all ∙ ap (λ ts. definition ts k.kind k.name) (sym i.texts)
