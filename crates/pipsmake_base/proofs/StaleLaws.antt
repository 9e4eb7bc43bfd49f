-- Stored results that are not what is defined.
use Rattle.std.proofs.Common.{◌≡◌, inl, inr, ℕ, Bool, true, false, List, [], ◌∷◌, Option, Some, None, Result, Ok, Err, IfOk, refl, sym, ap, ◌∙◌, subst}
use Rattle.std.specs.Prelude.{◌↔◌, IsTrue, IsNone, is_some, not, if◌then◌else◌}
use Rattle.pipsmake_db.specs.pipsmake_rules.declared.kind.Kind.{Kind}
use Rattle.pipsmake_db.specs.pipsmake_rules.declared.kind.Kind.TheVariants as kind
use Rattle.pipsmake_db.specs.pipsmake_rules.declared.key.Key.{Key}
use Rattle.pipsmake_db.specs.pipsmake_rules.Kinds.{name_of, kind_with}
use Rattle.pipsmake_db.specs.pipsmake_rules.Neighbours.{has_name}
use Rattle.pipsmake_db.specs.roundtrip_programs.Laws.{TablesIgnorePlaces, GraphsIgnorePlaces}
use Rattle.pipsmake_db.specs.base_values.declared.stored.StoredValue.{StoredValue}
use Rattle.pipsmake_db.specs.base_values.declared.stored.StoredValue.TheVariants as stored
use Rattle.pipsmake_db.specs.base_values.Naming.{Each as EachStored}
use Rattle.pipsmake_db.specs.base_values.Sizes.{kind_of}
use Rattle.base_text.specs.declared.base.StoredResult.{StoredResult}
use Rattle.pipsmake_db.specs.pipsmake_meaning.Definitions.{definition}
use Rattle.pipsmake_db.specs.laws_database.Laws.{AreLinked}
use Rattle.pipsmake_db.specs.laws_database.Unverified.{IsStored}
use Rattle.pipsmake_db.specs.pipsmake_meaning.MemoCells.{MemoCells, kept_of}
use Rattle.pipsmake_db.specs.pipsmake_meaning.Texts.{ModuleText, AreModules, names_in, links_in}
use Rattle.pipsmake_db.specs.pipsmake_meaning.Values.{Value}
use Rattle.pipsmake_db.specs.declared.db.Db.{Db}
use Rattle.pipsmake_db.specs.declared.refusal.DbRefusal.{DbRefusal}
use Rattle.pipsmake_db.specs.declared.refusal.DbRefusal.TheVariants.{NoSuchName}
use Rattle.pipsmake_db.specs.Calls.{Makes, MakesNamed, key}
use Rattle.pipsmake_db.specs.Refusals.{or_else, name_refusal, refused_links, links_refusal, owner_refusal, of_kind, make_refusal}
use Rattle.pipsmake_db.specs.State.{after_make, texts_of, memo_cells_in}
use Rattle.pipsmake_db.proofs.AskedLaws.{can_make}
use Rattle.pipsmake_base.specs.Saved.{key_at, value_in, IsDefinedAt, FirstStale}
use Rattle.pipsmake_base.specs.Made.{IsRefusedAt, IsMade}
use Rattle.pipsmake_base.specs.Stale.{IsStale, IsOther}
use Rattle.pipsmake_base.specs.Taken.{IsInSome}
use Rattle.pipsmake_base.proofs.Defined.{made_is_defined}
use Rattle.pipsmake_base.proofs.StoredCan.{stored_can}
use Rattle.pipsmake_base.proofs.LoadLaws.{kind_is_stored as stored_kind}
use Rattle.pipsmake_db.proofs.PipsmakeRules.Shared.{named_back as kind_named}

-- ---- kinds by their names

by_name : (ts : List ModuleText) (k : Kind) (word x : List ℕ) → word ≡ name_of k → make_refusal ts word x ≡ or_else (owner_refusal ts k x) (links_refusal ts k)
by_name ts k word x e = ap (of_kind (λ j. or_else (owner_refusal ts j x) (links_refusal ts j))) (ap kind_with e ∙ kind_named k)

-- ---- a result that was made

no_first : (a b : Option DbRefusal) → or_else a b ≡ None → (a ≡ None) × (b ≡ None)
no_first None b e = (refl, e)
no_first (Some r) b e = cc

pub made_named : (tables_law : TablesIgnorePlaces) (graphs_law : GraphsIgnorePlaces) (old new : Db) (k : Kind) (word x : List ℕ) (now : List Key) → word ≡ name_of k → MakesNamed old new word x now → IsInSome old
    → (kept_of (memo_cells_in new) k x ≡ definition (texts_of old) k x) × (texts_of new ≡ texts_of old) × IsInSome new
made_named tables_law graphs_law old new k word x now e m i =
    let none = no_first (owner_refusal (texts_of old) k x) (links_refusal (texts_of old) k) (sym (by_name (texts_of old) k word x e) ∙ m.0) in
    let makes : Makes old new (key k x) now = m.1 k (ap kind_with e ∙ kind_named k) in (
      made_is_defined tables_law graphs_law old new (key k x) now makes i.state i.is_in (can_make (texts_of old) k x none.0 none.1),
      makes.texts,
      record { state = after_make i.state (key k x) now; is_in = (makes.leads i.state i.is_in).next },
    )

-- ---- a result that cannot be made

not_refused : (ts : List ModuleText) (k : Kind) (x : List ℕ) → IsStored k → AreLinked ts × (has_name (names_in ts) x ≡ true) → or_else (owner_refusal ts k x) (links_refusal ts k) ≡ None
not_refused ts k x s c = go k s
  where
    named : name_refusal ts x ≡ None
    named = ap (λ b. if b then None else Some NoSuchName) c.1

    links : refused_links ts (links_in ts) ≡ None
    links = ap (refused_links ts) c.0.1

    both : or_else (name_refusal ts x) (refused_links ts (links_in ts)) ≡ None
    both = ap (λ o. or_else o (refused_links ts (links_in ts))) named ∙ links

    go : (j : Kind) → IsStored j → or_else (owner_refusal ts j x) (links_refusal ts j) ≡ None
    go kind.Parsed t = absurd t
    go kind.Lines t = absurd t
    go kind.Symbols t = absurd t
    go kind.CallGraph t = absurd t
    go kind.Effects t = both
    go kind.Transformers t = both
    go kind.Preconditions t = both
    go kind.Regions t = both
    go kind.InRegions t = both
    go kind.OutRegions t = both
    go kind.Marks t = both
    go kind.Printed t = absurd t

pub refused_is_stale : (d : Db) (ms : AreModules (texts_of d)) (r : StoredResult) → IsRefusedAt d (kind_of r.value) r.name → IsStale (texts_of d) r true
refused_is_stale d ms r h is =
    let ts = texts_of d in
    let c = stored_can ts ms (kind_of r.value) r.name (value_in r.value) (stored_kind r.value) is in
    let none : make_refusal ts (name_of (kind_of r.value)) r.name ≡ None = by_name ts (kind_of r.value) (name_of (kind_of r.value)) r.name refl ∙ not_refused ts (kind_of r.value) r.name (stored_kind r.value) c in
    let why : make_refusal ts (name_of (kind_of r.value)) r.name ≡ Some h.why = h.is in
    cc

pub some_modules : (d : Db) → IsInSome d → AreModules (texts_of d)
some_modules d i = subst AreModules (sym i.is_in.texts) i.is_in.stands.modules

-- a result that was made, or cannot be
pub made_or_stale : (old new : Db) (i : IsInSome old) (r : StoredResult) (b : Bool) → b ≡ false → IsMade old new (kind_of r.value) r.name b → IsStale (texts_of old) r true
made_or_stale old new i r b e m = refused_is_stale old (some_modules old i) r (subst (IsMade old new (kind_of r.value) r.name) e m)

-- ---- what is kept is what is defined

other_is_stale : (sh : MemoCells) (ts : List ModuleText) (r : StoredResult) (b : Bool) → kept_of sh (kind_of r.value) r.name ≡ definition ts (kind_of r.value) r.name → IsOther sh r b → IsStale ts r b
other_is_stale sh ts r true e h = λ d. h (e ∙ d)
other_is_stale sh ts r false e h = sym e ∙ h

-- none is kept
pub other_none : (sh : MemoCells) (r : StoredResult) (k : Kind) → k ≡ kind_of r.value → None ≡ kept_of sh k r.name → IsOther sh r true
other_none sh r k e n h =
    let same : None ≡ Some (value_in r.value) = n ∙ ap (λ j. kept_of sh j r.name) e ∙ h in
    cc

-- a value is kept, and compared
pub other_some : (sh : MemoCells) (r : StoredResult) (k : Kind) (found value : Value) (b : Bool) → k ≡ kind_of r.value → Some found ≡ kept_of sh k r.name → value ≡ value_in r.value → IsTrue b ↔ (found ≡ value) → IsOther sh r (not b)
other_some sh r k found value true e f v h = sym (ap (λ j. kept_of sh j r.name) e) ∙ sym f ∙ ap Some (h.0 refl ∙ v)
other_some sh r k found value false e f v h = λ is.
    let kept : Some found ≡ Some (value_in r.value) = f ∙ ap (λ j. kept_of sh j r.name) e ∙ is in
    let same : found ≡ value_in r.value = cc in
    let no : IsTrue false = h.1 (same ∙ sym v) in
    cc

-- so is what a call tells of it
pub stale_from : {E : Type 0} (sh : MemoCells) (ts : List ModuleText) (r : StoredResult) (told : Result Bool E) → kept_of sh (kind_of r.value) r.name ≡ definition ts (kind_of r.value) r.name → IfOk told (IsOther sh r) → IfOk told (IsStale ts r)
stale_from sh ts r (Ok b) e h = other_is_stale sh ts r b e h
stale_from sh ts r (Err x) e h = tt

-- ---- the first

pub record FirstRest (ts : List ModuleText) (all left : List StoredResult) : Type 0 where
  pub back : (o : Option Key) → FirstStale ts left o → FirstStale ts all o

pub first_none : (ts : List ModuleText) (all : List StoredResult) → FirstRest ts all all
first_none ts all = record { back = λ o h. h }

pub first_more : (ts : List ModuleText) (all : List StoredResult) (r : StoredResult) (left : List StoredResult) → FirstRest ts all (r ∷ left) → IsStale ts r false → FirstRest ts all left
first_more ts all r left f d = record { back = λ o h. f.back o (inl (d, h)) }

pub first_found : (ts : List ModuleText) (all : List StoredResult) (r : StoredResult) (left : List StoredResult) (k : Key) → FirstRest ts all (r ∷ left) → IsStale ts r true → k ≡ key_at r → FirstStale ts all (Some k)
first_found ts all r left k f d e = f.back (Some k) (inr (d, ap Some e))

pub none_found : (ts : List ModuleText) (all : List StoredResult) → FirstRest ts all [] → FirstStale ts all None
none_found ts all f = f.back None refl

-- there is none exactly where all are what is defined
pub stale_or_saved : (ts : List ModuleText) (rs : List StoredResult) (o : Option Key) → FirstStale ts rs o → IsNone o ↔ EachStored (IsDefinedAt ts) rs
stale_or_saved ts rs o h = (to rs h, from rs h)
  where
    some_not : (k : Key) → IsNone (Some k) → ⊥
    some_not k n = cc

    to : (rs : List StoredResult) → FirstStale ts rs o → IsNone o → EachStored (IsDefinedAt ts) rs
    to [] h n = tt
    to (r ∷ rs) (inl p) n = (p.0, to rs p.1 n)
    to (r ∷ rs) (inr p) n = absurd (some_not (key_at r) (subst IsNone p.1 n))

    from : (rs : List StoredResult) → FirstStale ts rs o → EachStored (IsDefinedAt ts) rs → IsNone o
    from [] h d = ap is_some h
    from (r ∷ rs) (inl p) d = from rs p.1 d.1
    from (r ∷ rs) (inr p) d = absurd (p.0 d.0)
