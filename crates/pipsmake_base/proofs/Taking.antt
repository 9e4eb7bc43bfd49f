-- Stored results that are taken over one by one.
use Rattle.std.proofs.Common.{◌≡◌, inl, inr, ℕ, Bool, true, false, List, [], ◌∷◌, ◌++◌, map, Option, Some, None, Result as Outcome, Ok, Err, refl, sym, ap, ◌∙◌, subst, append_assoc, append-nil}
use Rattle.std.specs.Prelude.{slice_get, is_some, is_ok}
use Rattle.std.proofs.lemmas.List.{map-append}
use Rattle.call_graph.specs.declared.graph.Graph.{Graph}
use Rattle.call_graph.specs.declared.refusal.Fault.{Fault}
use Rattle.pipsmake_db.specs.pipsmake_rules.declared.kind.Kind.{Kind}
use Rattle.pipsmake_db.specs.pipsmake_rules.declared.kind.Kind.TheVariants as kind
use Rattle.pipsmake_db.specs.pipsmake_rules.declared.key.Key.{Key}
use Rattle.pipsmake_db.specs.pipsmake_rules.Keys.{same_key, holds}
use Rattle.pipsmake_db.proofs.PipsmakeRules.KeyLaws.{same_key-true, same_key_self, holds-last, holds-more}
use Rattle.base_text.specs.declared.base.StoredResult.{StoredResult}
use Rattle.pipsmake_db.specs.base_values.Naming.{Each as EachStored}
use Rattle.call_graph.specs.CallsIn.{Each}
use Rattle.pipsmake_db.specs.pipsmake_meaning.Texts.{ModuleText, links_in}
use Rattle.pipsmake_db.specs.pipsmake_meaning.Definitions.{definition}
use Rattle.pipsmake_db.specs.pipsmake_meaning.Session.{needs_in, none_made}
use Rattle.pipsmake_db.specs.pipsmake_meaning.MemoCells.{MemoCells, MemoCell, Stamped, Kept, Adds, KeepsIn, SeenIn}
use Rattle.pipsmake_db.specs.laws_database.Stands.{Needed, text_needed, AreStamps, KeptStands, StandsFor, Valuation, needed_with, KeepsValues}
use Rattle.pipsmake_db.specs.laws_database.Laws.{AreLinked}
use Rattle.pipsmake_db.specs.laws_database.Unverified.{IsStored}
use Rattle.pipsmake_db.specs.pipsmake_meaning.Values.{Value, Item, text, result}
use Rattle.pipsmake_db.proofs.LawsDatabase.Going.{nothing_is_given, given_may_be_kept, given_may_be_seen}
use Rattle.pipsmake_db.proofs.LawsDatabase.Stamps.{adds_keep, stamps_grow}
use Rattle.pipsmake_db.specs.result_store.Fits.{ValueFits}
use Rattle.pipsmake_db.specs.result_store.declared.item.Stamped as code
use Rattle.pipsmake_db.specs.result_store.declared.item.Item.TheVariants.{Result}
use Rattle.pipsmake_db.specs.result_store.Seen.{KeepsSeen}
use Rattle.pipsmake_db.specs.result_store.Values.{stamped_tree}
use Rattle.pipsmake_base.specs.Saved.{key_at, value_in}
use Rattle.pipsmake_base.specs.Taken.{IsGivenAt, HasFirst, OthersDefined, Taken, SlotsStay, SeesFirst, SeesResults, SeesNeed, SeesNeeds, need_at, IsStoredKey, SeesStamps, LinksFor, KeepsResults}
use Rattle.fx_lists.proofs.Booleans.{no_both as clash}
use Rattle.pipsmake_db.proofs.LawsDatabase.Keeping.{held, holds_other}
use Rattle.call_graph.proofs.EachLaws.{each_more, each_joined}

-- ---- memo cells that stay

abbrev Others : MemoCells → MemoCells → Key → Type 0
Others old new k = (item : Item) (y : List ℕ) → (((item ≡ result k.kind) × (y ≡ k.name)) → ⊥) → new item y ≡ old item y

module _ (old new : MemoCells) (k : Key) (others : Others old new k) where
  is_other : (j : Key) → same_key j k ≡ false → ((result j.kind ≡ result k.kind) × (j.name ≡ k.name)) → ⊥
  is_other j e p =
      let r : result j.kind ≡ result k.kind = p.0 in
      let q : j.kind ≡ k.kind = cc in
      clash (same_key k k) (same_key_self k) ((λ i. same_key (record { kind = sym q i; name = sym p.1 i }) k) ∙ e)

  at_result : (P : MemoCell → MemoCell → Type 0) → P (old (result k.kind) k.name) (new (result k.kind) k.name) → ((s : MemoCell) → P s s) → (j : Key) → P (old (result j.kind) j.name) (new (result j.kind) j.name)
  at_result P here same j = go (same_key j k) refl
    where
      go : (b : Bool) → same_key j k ≡ b → P (old (result j.kind) j.name) (new (result j.kind) j.name)
      go true e = subst (λ (i : Key). P (old (result i.kind) i.name) (new (result i.kind) i.name)) (sym (same_key-true j k e)) here
      go false e = subst (λ s. P (old (result j.kind) j.name) s) (sym (others (result j.kind) j.name (is_other j e))) (same (old (result j.kind) j.name))

  slots_stay : (v : Value) → Adds (old (result k.kind) k.name).values v (new (result k.kind) k.name).values → SlotsStay old new
  slots_stay v adds text x i w e = ap (λ (s : MemoCell). slice_get s.values i) (others text x (λ p. (let q : text ≡ result k.kind = p.0 in cc))) ∙ e
  slots_stay v adds (result j) x i w e =
      at_result (λ s t. slice_get s.values i ≡ Some w → slice_get t.values i ≡ Some w)
      (λ f. adds_keep (old (result k.kind) k.name).values (new (result k.kind) k.name).values v w i adds f) (λ s f. f) (record { kind = j; name = x }) e

pub first_stays : (old new : MemoCells) (d : Valuation) → SlotsStay old new → (j : Key) → HasFirst old d j → HasFirst new d j
first_stays old new d g j h = record { value = h.value; is = h.is; at = g (result j.kind) j.name 0 h.value h.at }

pub firsts_stay : (old new : MemoCells) (d : Valuation) → SlotsStay old new → (ks : List Key) → Each (HasFirst old d) ks → Each (HasFirst new d) ks
firsts_stay old new d g ks h = each_more (HasFirst old d) (HasFirst new d) ks (first_stays old new d g) h

pub stay_same : (sh : MemoCells) → SlotsStay sh sh
stay_same sh item x i w e = e

pub stay_on : (old mid new : MemoCells) → SlotsStay old mid → SlotsStay mid new → SlotsStay old new
stay_on old mid new f g item x i w e = g item x i w (f item x i w e)

-- ---- what is kept of results that are being seen

pub record TakenSome (sh : MemoCells) (ts : List ModuleText) (d : Valuation) (seen kept : List Key) : Type 0 where
  pub keeps : KeepsValues sh ts d
  pub first : Each (HasFirst sh d) seen
  pub kept_are : (kind : Kind) (x : List ℕ) → is_some ((sh (result kind) x).kept) ≡ holds kept (record { kind = kind; name = x })

some_of : (sh : MemoCells) (ts : List ModuleText) (d : Valuation) (seen kept : List Key) → Taken sh ts d seen kept → TakenSome sh ts d seen kept
some_of sh ts d seen kept t = record { keeps = t.keeps; first = t.first; kept_are = t.kept_are }

with_others : (sh : MemoCells) (ts : List ModuleText) (d : Valuation) (seen kept : List Key) → TakenSome sh ts d seen kept → OthersDefined ts d seen → Taken sh ts d seen kept
with_others sh ts d seen kept t others = record { keeps = t.keeps; first = t.first; kept_are = t.kept_are; others = others }

not_before : (ks : List Key) (k j : Key) → holds (ks ++ k ∷ []) j ≡ false → holds ks j ≡ false
not_before ks k j e = go (holds ks j) refl
  where
    go : (b : Bool) → holds ks j ≡ b → b ≡ false
    go true h = absurd (clash (holds (ks ++ k ∷ []) j) (holds-more ks k j h) e)
    go false h = refl

-- nothing was seen
pub nothing_taken : (sh : MemoCells) (ts : List ModuleText) (d : Valuation) → StandsFor sh ts none_made → TakenSome sh ts d [] []
nothing_taken sh ts d s = record {
  keeps = nothing_is_given sh ts d s;
  first = tt;
  kept_are = λ k x. none_kept k x ((sh (result k) x).kept) (s.kept k x);
}
  where
    none_kept : (k : Kind) (x : List ℕ) (o : Option Kept) → KeptStands sh (record { kind = k; name = x }) o None → is_some o ≡ false
    none_kept k x None h = refl
    none_kept k x (Some kept) h = absurd h

-- ---- a value that is seen

module _ (old new : MemoCells) (k : Key) (v : Value) (sees : SeenIn old new (result k.kind) k.name v 0) where
  pub seen_stay : SlotsStay old new
  seen_stay = slots_stay old new k sees.others v sees.sees.values

  kept_same : (j : Key) → (new (result j.kind) j.name).kept ≡ (old (result j.kind) j.name).kept
  kept_same = at_result old new k sees.others (λ s t. t.kept ≡ s.kept) sees.sees.kept (λ s. refl)

  some_seen : (ts : List ModuleText) (d : Valuation) (seen kept : List Key) → d k.kind k.name ≡ Some v → TakenSome old ts d seen kept → TakenSome new ts d (seen ++ k ∷ []) kept
  some_seen ts d seen kept is t = record {
    keeps = given_may_be_seen old new ts d (result k.kind) k.name v 0 t.keeps sees;
    first = each_joined (HasFirst new d) seen (k ∷ []) (firsts_stay old new d seen_stay seen t.first) (record { value = v; is = is; at = sees.sees.at }, tt);
    kept_are = λ j x. ap is_some (kept_same (record { kind = j; name = x })) ∙ t.kept_are j x;
  }

  taken_seen : (ts : List ModuleText) (d : Valuation) (seen kept : List Key) → d k.kind k.name ≡ Some v → Taken old ts d seen kept → Taken new ts d (seen ++ k ∷ []) kept
  taken_seen ts d seen kept is t = with_others new ts d (seen ++ k ∷ []) kept (some_seen ts d seen kept is (some_of old ts d seen kept t)) (λ j e. t.others j (not_before seen k j e))

-- ---- stored values that are seen

-- a value that was seen at the first place
pub sees_first : (old new : MemoCells) (before seen : List Key) (k c : Key) (v : Value) (n : ℕ) → n ≡ 0 → SeenIn old new (result k.kind) k.name v n → c ≡ k → seen ≡ before ++ c ∷ [] → SeesFirst old before k v new seen
sees_first old new before seen k c v n z s e a = record { sees = subst (SeenIn old new (result k.kind) k.name v) z s; adds = a ∙ ap (λ j. before ++ j ∷ []) e }

-- the first of these were seen, and these are left
pub record SeesRest (old : MemoCells) (all : List StoredResult) (sh : MemoCells) (seen : List Key) (left : List StoredResult) : Type 0 where
  pub fits : EachStored (λ (r : StoredResult). ValueFits (value_in r.value)) left
  pub adds : seen ++ map key_at left ≡ map key_at all
  pub takes : (ts : List ModuleText) (d : Valuation) → EachStored (IsGivenAt d) all → StandsFor old ts none_made → TakenSome sh ts d seen [] × EachStored (IsGivenAt d) left

pub sees_none : (sh : MemoCells) (all : List StoredResult) → EachStored (λ (r : StoredResult). ValueFits (value_in r.value)) all → SeesRest sh all sh [] all
sees_none sh all f = record { fits = f; adds = refl; takes = λ ts d given s. (nothing_taken sh ts d s, given) }

pub sees_more : (old : MemoCells) (all : List StoredResult) (sh new : MemoCells) (seen more : List Key) (r : StoredResult) (left : List StoredResult) → SeesRest old all sh seen (r ∷ left) → SeesFirst sh seen (key_at r) (value_in r.value) new more → SeesRest old all new more left
sees_more old all sh new seen more r left s f = record {
  fits = s.fits.1;
  adds = ap (λ ks. ks ++ map key_at left) f.adds ∙ append_assoc seen (key_at r ∷ []) (map key_at left) ∙ s.adds;
  takes = λ ts d given stands. (let p = s.takes ts d given stands in (
    subst (λ ks. TakenSome new ts d ks []) (sym f.adds) (some_seen sh new (key_at r) (value_in r.value) f.sees ts d seen [] p.1.0 p.0),
    p.1.1,
  ));
}

pub sees_all : (old : MemoCells) (all : List StoredResult) (sh : MemoCells) (seen : List Key) → SeesRest old all sh seen [] → SeesResults old all sh seen
sees_all old all sh seen s =
    let adds : seen ≡ map key_at all = sym (append-nil seen) ∙ s.adds in
    record { adds = adds; takes = λ ts d given others stands. with_others sh ts d seen [] (s.takes ts d given stands).0 (subst (OthersDefined ts d) (sym adds) others) }

-- ---- needs that are seen

pub seen_already : (ts : List ModuleText) (sh : MemoCells) (seen : List Key) (n : Key) → holds seen n ≡ true → SeesNeed ts sh seen n sh seen
seen_already ts sh seen n e = record { takes = λ d kept t. (t, held (HasFirst sh d) seen n t.first e); stay = stay_same sh }

pub seen_now : (ts : List ModuleText) (old new : MemoCells) (seen more : List Key) (n : Key) (v : Value) → holds seen n ≡ false → definition ts n.kind n.name ≡ Some v → SeesFirst old seen n v new more → SeesNeed ts old seen n new more
seen_now ts old new seen more n v e is f = record {
  takes = λ d kept t. (let given : d n.kind n.name ≡ Some v = t.others n e ∙ is in (
    subst (λ ks. Taken new ts d ks kept) (sym f.adds) (taken_seen old new n v f.sees ts d seen kept given t),
    record { value = v; is = given; at = f.sees.sees.at },
  ));
  stay = seen_stay old new n v f.sees;
}

pub record NeedsRest (ts : List ModuleText) (old : MemoCells) (before : List Key) (all : List Key) (sh : MemoCells) (seen : List Key) (stamps : List Stamped) (left : List Key) : Type 0 where
  pub done : List Key
  pub parts : done ++ left ≡ all
  pub takes : (d : Valuation) (kept : List Key) → Taken old ts d before kept → Taken sh ts d seen kept × AreStamps sh stamps (map (need_at d) done)
  pub stay : SlotsStay old sh

pub needs_none : (ts : List ModuleText) (sh : MemoCells) (seen all : List Key) → NeedsRest ts sh seen all sh seen [] all
needs_none ts sh seen all = record { done = []; parts = refl; takes = λ d kept t. (t, tt); stay = stay_same sh }

abbrev first_stamp : Key → Stamped
first_stamp n = record { item = result n.kind; name = n.name; stamp = 0 }

stamps_last : (sh : MemoCells) (ss : List Stamped) (ns : List Needed) (s : Stamped) (n : Needed) → AreStamps sh ss ns → AreStamps sh (s ∷ []) (n ∷ []) → AreStamps sh (ss ++ s ∷ []) (ns ++ n ∷ [])
stamps_last sh [] [] s n h p = p
stamps_last sh [] (m ∷ ns) s n h p = absurd h
stamps_last sh (t ∷ ss) [] s n h p = absurd h
stamps_last sh (t ∷ ss) (m ∷ ns) s n h p = (h.0, h.1, h.2, stamps_last sh ss ns s n h.3 p)

pub needs_more : (ts : List ModuleText) (old : MemoCells) (before all : List Key) (sh new : MemoCells) (seen more : List Key) (stamps later : List Stamped) (n : Key) (left : List Key) → NeedsRest ts old before all sh seen stamps (n ∷ left)
    → SeesNeed ts sh seen n new more → later ≡ stamps ++ first_stamp n ∷ [] → NeedsRest ts old before all new more later left
needs_more ts old before all sh new seen more stamps later n left r s e = record {
  done = r.done ++ n ∷ [];
  parts = append_assoc r.done (n ∷ []) left ∙ r.parts;
  takes = λ d kept t. (
      let p = r.takes d kept t in
      let q = s.takes d kept p.0 in
      let one : AreStamps new (first_stamp n ∷ []) (need_at d n ∷ []) = ((refl, refl, (q.1.value, q.1.is, q.1.at), tt)) in
      let both : AreStamps new (stamps ++ first_stamp n ∷ []) (map (need_at d) r.done ++ need_at d n ∷ []) = stamps_last new stamps (map (need_at d) r.done) (first_stamp n) (need_at d n) (stamps_grow sh new s.stay stamps (map (need_at d) r.done) p.1) one in
      (q.0, subst (λ ss. AreStamps new ss (map (need_at d) (r.done ++ n ∷ []))) (sym e) (subst (AreStamps new (stamps ++ first_stamp n ∷ [])) (sym (map-append (need_at d) r.done (n ∷ []))) both))
      );
  stay = stay_on old sh new r.stay s.stay;
}

-- the stamp of one more
pub stamp_pushed : (ss ts : List code.Stamped) (n : Key) (x : List ℕ) → x ≡ n.name → ts ≡ ss ++ record { item = Result n.kind; name = x; stamp = 0 } ∷ [] → map stamped_tree ts ≡ map stamped_tree ss ++ first_stamp n ∷ []
stamp_pushed ss ts n x e p =
    ap (map stamped_tree) p ∙ map-append stamped_tree ss (record { item = Result n.kind; name = x; stamp = 0 } ∷ []) ∙ ap (λ (y : List ℕ). map stamped_tree ss ++ record { item = result n.kind; name = y; stamp = 0 } ∷ []) e

pub needs_all : (ts : List ModuleText) (old : MemoCells) (before all : List Key) (sh : MemoCells) (seen : List Key) (stamps : List Stamped) → NeedsRest ts old before all sh seen stamps [] → SeesNeeds ts old before all sh seen stamps
needs_all ts old before all sh seen stamps r =
    let parts : r.done ≡ all = sym (append-nil r.done) ∙ r.parts in
    record { takes = λ d kept t. (let p = r.takes d kept t in (p.0, subst (λ ns. AreStamps sh stamps (map (need_at d) ns)) parts p.1)); stay = r.stay }

-- ---- the stamps of a result

-- results of stored kinds need no text
no_text : (ts : List ModuleText) (k : Kind) (x : List ℕ) → IsStored k → text_needed ts k x ≡ []
no_text ts kind.Parsed x s = absurd s
no_text ts kind.Lines x s = absurd s
no_text ts kind.Symbols x s = absurd s
no_text ts kind.CallGraph x s = absurd s
no_text ts kind.Effects x s = refl
no_text ts kind.Transformers x s = refl
no_text ts kind.Preconditions x s = refl
no_text ts kind.Regions x s = refl
no_text ts kind.InRegions x s = refl
no_text ts kind.OutRegions x s = refl
no_text ts kind.Marks x s = refl
no_text ts kind.Printed x s = absurd s

pub stamps_from : (ts : List ModuleText) (old : MemoCells) (before : List Key) (k : Key) (new : MemoCells) (seen : List Key) (stamps : List Stamped) → SeesNeeds ts old before (needs_in ts k) new seen stamps → SeesStamps ts old before k new seen stamps
stamps_from ts old before k new seen stamps s = record {
  takes = λ l stored d kept t. (let p = s.takes d kept t in (p.0, subst (λ ns. AreStamps new stamps (ns ++ map (need_at d) (needs_in ts k))) (sym (no_text ts k.kind k.name stored)) p.1));
  stay = s.stay;
}

pub stamps_unlinked : (ts : List ModuleText) (sh : MemoCells) (seen : List Key) (k : Key) (stamps : List Stamped) → (AreLinked ts → ⊥) → SeesStamps ts sh seen k sh seen stamps
stamps_unlinked ts sh seen k stamps n = record { takes = λ l stored d kept t. absurd (n l); stay = stay_same sh }

not_ok : (ts : List ModuleText) (r : Outcome Graph Fault) → links_in ts ≡ r → is_ok r ≡ false → AreLinked ts → ⊥
not_ok ts (Ok g) e f l = cc
not_ok ts (Err d) e f l = (let same : links_in ts ≡ Ok l.0 = l.1 in cc)

pub not_linked : (ts : List ModuleText) → is_ok (links_in ts) ≡ false → AreLinked ts → ⊥
not_linked ts e l = not_ok ts (links_in ts) refl e l

-- ---- results that are kept

module _ (old new : MemoCells) (k : Key) (v : Value) (stamps : List Stamped) (keeps : KeepsIn old new (result k.kind) k.name v stamps) where
  pub keeps_stay : SlotsStay old new
  keeps_stay = slots_stay old new k keeps.others v keeps.keeps.values

  kept_now : (kept : List Key) → ((i : Kind) (x : List ℕ) → is_some ((old (result i) x).kept) ≡ holds kept (record { kind = i; name = x })) → (j : Key) → is_some ((new (result j.kind) j.name).kept) ≡ holds (kept ++ k ∷ []) j
  kept_now kept h j = go (same_key k j) refl
    where
      at_other : same_key k j ≡ false → ((result j.kind ≡ result k.kind) × (j.name ≡ k.name)) → ⊥
      at_other e p =
          let r : result j.kind ≡ result k.kind = p.0 in
          let q : j.kind ≡ k.kind = cc in
          clash (same_key k k) (same_key_self k) ((λ i. same_key k (record { kind = sym q i; name = sym p.1 i })) ∙ e)

      go : (b : Bool) → same_key k j ≡ b → is_some ((new (result j.kind) j.name).kept) ≡ holds (kept ++ k ∷ []) j
      go true e =
          let same : k ≡ j = same_key-true k j e in
          subst (λ (i : Key). is_some ((new (result i.kind) i.name).kept) ≡ holds (kept ++ k ∷ []) i) same (ap is_some keeps.keeps.kept ∙ sym (holds-last kept k))
      go false e = ap (λ (s : MemoCell). is_some s.kept) (keeps.others (result j.kind) j.name (at_other e)) ∙ h j.kind j.name ∙ sym (holds_other kept k j e)

  pub taken_kept : (ts : List ModuleText) (d : Valuation) (seen kept : List Key) → d k.kind k.name ≡ Some v → AreStamps old stamps (needed_with ts d k) → Taken old ts d seen kept → Taken new ts d seen (kept ++ k ∷ [])
  taken_kept ts d seen kept is are t = record {
    keeps = given_may_be_kept old new ts d k v stamps t.keeps is are keeps;
    first = firsts_stay old new d keeps_stay seen t.first;
    kept_are = λ j x. kept_now kept t.kept_are (record { kind = j; name = x });
    others = t.others;
  }

linked_one : (ts : List ModuleText) (k : Key) (ks : List Key) → LinksFor ts (k ∷ ks) → AreLinked ts
linked_one ts k ks (inl e) = cc
linked_one ts k ks (inr l) = l

-- one result, whose needs were seen
pub keeps_one : (ts : List ModuleText) (old mid new : MemoCells) (before seen : List Key) (k : Key) (stamps : List Stamped) → SeesStamps ts old before k mid seen stamps → KeepsSeen mid new (result k.kind) k.name 0 stamps → KeepsResults ts old before (k ∷ []) new seen
keeps_one ts old mid new before seen k stamps s keeps = record {
  takes = λ l d kept t stored firsts. (
      let p = s.takes (linked_one ts k [] l) stored.0 d kept t in
      let f : HasFirst mid d k = first_stays old mid d s.stay k firsts.0 in
      taken_kept mid new k f.value stamps (keeps f.value f.at) ts d seen kept f.is p.1 p.0
      );
  stay = λ d firsts. (
      let f : HasFirst mid d k = first_stays old mid d s.stay k firsts.0 in
      stay_on old mid new s.stay (keeps_stay mid new k f.value stamps (keeps f.value f.at))
      );
}

pub record KeepsRest (ts : List ModuleText) (old : MemoCells) (before : List Key) (all : List Key) (sh : MemoCells) (seen : List Key) (left : List Key) : Type 0 where
  pub done : List Key
  pub parts : done ++ left ≡ all
  pub keeps : KeepsResults ts old before done sh seen

pub keeps_none : (ts : List ModuleText) (sh : MemoCells) (seen all : List Key) → KeepsRest ts sh seen all sh seen all
keeps_none ts sh seen all = record {
  done = [];
  parts = refl;
  keeps = record { takes = λ l d kept t stored firsts. subst (Taken sh ts d seen) (sym (append-nil kept)) t; stay = λ d firsts. stay_same sh };
}

each_parts : (P : Key → Type 0) (xs ys : List Key) → Each P (xs ++ ys) → Each P xs × Each P ys
each_parts P [] ys h = (tt, h)
each_parts P (x ∷ xs) ys h = let p = each_parts P xs ys h.1 in ((h.0, p.0), p.1)

links_last : (ts : List ModuleText) (done : List Key) (k : Key) → LinksFor ts (done ++ k ∷ []) → AreLinked ts
links_last ts [] k (inl e) = cc
links_last ts (d ∷ done) k (inl e) = cc
links_last ts done k (inr l) = l

pub keeps_more : (ts : List ModuleText) (old : MemoCells) (before all : List Key) (sh new : MemoCells) (seen more : List Key) (k : Key) (left : List Key) → KeepsRest ts old before all sh seen (k ∷ left) → KeepsResults ts sh seen (k ∷ []) new more → KeepsRest ts old before all new more left
keeps_more ts old before all sh new seen more k left r s = record {
  done = r.done ++ k ∷ [];
  parts = append_assoc r.done (k ∷ []) left ∙ r.parts;
  keeps = record {
    takes = λ l d kept t stored firsts. (
        let linked : AreLinked ts = links_last ts r.done k l in
        let st = each_parts IsStoredKey r.done (k ∷ []) stored in
        let fs = each_parts (HasFirst old d) r.done (k ∷ []) firsts in
        let mid : Taken sh ts d seen (kept ++ r.done) = r.keeps.takes (inr linked) d kept t st.0 fs.0 in
        let now : Taken new ts d more ((kept ++ r.done) ++ k ∷ []) = s.takes (inr linked) d (kept ++ r.done) mid st.1 (firsts_stay old sh d (r.keeps.stay d fs.0) (k ∷ []) fs.1) in
        subst (Taken new ts d more) (append_assoc kept r.done (k ∷ [])) now
        );
    stay = λ d firsts. (
        let fs = each_parts (HasFirst old d) r.done (k ∷ []) firsts in
        let first : SlotsStay old sh = r.keeps.stay d fs.0 in
        stay_on old sh new first (s.stay d (firsts_stay old sh d first (k ∷ []) fs.1))
        );
  };
}

pub keeps_all : (ts : List ModuleText) (old : MemoCells) (before all : List Key) (sh : MemoCells) (seen : List Key) → KeepsRest ts old before all sh seen [] → KeepsResults ts old before all sh seen
keeps_all ts old before all sh seen r = subst (λ ks. KeepsResults ts old before ks sh seen) (sym (append-nil r.done) ∙ r.parts) r.keeps
