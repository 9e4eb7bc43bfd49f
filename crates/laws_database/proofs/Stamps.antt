-- Stamps: places among values that are all different.
use Rattle.std.proofs.Common.{◌≡◌, inl, inr, ℕ, zero, suc, List, [], ◌∷◌, ◌++◌, map, Option, Some, None, refl, sym, ap, ◌∙◌, subst}
use Rattle.std.specs.Prelude.{slice_get, option_map, unwrap_or}
use Rattle.session_texts.specs.pipsmake_rules.declared.kind.Kind.{Kind}
use Rattle.session_texts.specs.pipsmake_rules.declared.kind.Kind.TheVariants as kind
use Rattle.session_texts.specs.pipsmake_rules.declared.key.Key.{Key}
use Rattle.call_graph.specs.CallsIn.{Each}
use Rattle.session_texts.specs.pipsmake_meaning.Values.{Value, source, Item, text, result}
use Rattle.session_texts.specs.pipsmake_meaning.Texts.{ModuleText, text_of}
use Rattle.session_texts.specs.pipsmake_meaning.Definitions.{definition}
use Rattle.session_texts.specs.pipsmake_meaning.Session.{needs_in, SameText, SameValue}
use Rattle.session_texts.specs.pipsmake_meaning.MemoCells.{MemoCells, MemoCell, Stamped, Kept, value_under, kept_value, kept_stamp, kept_of, IsNew, AreDistinct, Adds}
use Rattle.session_texts.specs.pipsmake_meaning.Making.{stamp_of, text_stamps, stamps_now}
use Rattle.laws_database.specs.Stands.{Needed, text_needed, needed, AreStamps}
use Rattle.fx_lists.proofs.Options.{some_is}

-- ---- values that are all different

nowhere : (v : Value) (ws : List Value) (j : ℕ) → IsNew v ws → slice_get ws j ≡ Some v → ⊥
nowhere v [] j n e = cc
nowhere v (w ∷ ws) zero n e = let s : w ≡ v = cc in n.0 s
nowhere v (w ∷ ws) (suc j) n e = nowhere v ws j n.1 e

pub one_place : (vs : List Value) (i j : ℕ) (v : Value) → AreDistinct vs → slice_get vs i ≡ Some v → slice_get vs j ≡ Some v → i ≡ j
one_place [] i j v d e f = cc
one_place (w ∷ ws) zero zero v d e f = refl
one_place (w ∷ ws) zero (suc j) v d e f = let s : w ≡ v = cc in absurd (nowhere w ws j d.0 (f ∙ ap (λ z. Some z) (sym s)))
one_place (w ∷ ws) (suc i) zero v d e f = let s : w ≡ v = cc in absurd (nowhere w ws i d.0 (e ∙ ap (λ z. Some z) (sym s)))
one_place (w ∷ ws) (suc i) (suc j) v d e f = ap suc (one_place ws i j v d.1 e f)

-- ---- values that are only added to

get_more : (vs ws : List Value) (i : ℕ) (v : Value) → slice_get vs i ≡ Some v → slice_get (vs ++ ws) i ≡ Some v
get_more [] ws i v e = cc
get_more (w ∷ vs) ws zero v e = e
get_more (w ∷ vs) ws (suc i) v e = get_more vs ws i v e

pub adds_keep : (old new : List Value) (v w : Value) (i : ℕ) → Adds old v new → slice_get old i ≡ Some w → slice_get new i ≡ Some w
adds_keep old new v w i (inl s) e = subst (λ vs. slice_get vs i ≡ Some w) (sym s) e
adds_keep old new v w i (inr s) e = subst (λ vs. slice_get vs i ≡ Some w) (sym s.0) (get_more old (v ∷ []) i w e)

new_more : (w v : Value) (ws : List Value) → IsNew w ws → (v ≡ w → ⊥) → IsNew w (ws ++ v ∷ [])
new_more w v [] n d = (d, tt)
new_more w v (x ∷ ws) n d = (n.0, new_more w v ws n.1 d)

distinct_more : (vs : List Value) (v : Value) → AreDistinct vs → IsNew v vs → AreDistinct (vs ++ v ∷ [])
distinct_more [] v d n = (tt, tt)
distinct_more (w ∷ ws) v d n = (new_more w v ws d.0 (λ e. n.0 (sym e)), distinct_more ws v d.1 n.1)

pub adds_distinct : (old new : List Value) (v : Value) → Adds old v new → AreDistinct old → AreDistinct new
adds_distinct old new v (inl s) d = subst AreDistinct (sym s) d
adds_distinct old new v (inr s) d = subst AreDistinct (sym s.0) (distinct_more old v d s.1)

-- ---- stamps and needs

abbrev pub Distinct : MemoCells → Type 0
Distinct sh = (item : Item) (x : List ℕ) → AreDistinct (sh item x).values

abbrev pub Grows : MemoCells → MemoCells → Type 0
Grows old new = (item : Item) (x : List ℕ) (i : ℕ) (v : Value) → slice_get (old item x).values i ≡ Some v → slice_get (new item x).values i ≡ Some v

same_place : (sh : MemoCells) → Distinct sh → (a b : Item) (x y : List ℕ) (i j : ℕ) (v w : Value) → a ≡ b → x ≡ y → v ≡ w → slice_get (sh a x).values i ≡ Some v → slice_get (sh b y).values j ≡ Some w → i ≡ j
same_place sh d a b x y i j v w p q r e f =
    one_place (sh b y).values i j w (d b y) (sym (λ k. slice_get (sh (p k) (q k)).values i) ∙ (e ∙ ap (λ z. Some z) r)) f

-- values have one stamp each
pub stamps_same : (sh : MemoCells) → Distinct sh → (ss ts : List Stamped) (ns : List Needed) → AreStamps sh ss ns → AreStamps sh ts ns → ss ≡ ts
stamps_same sh d [] [] [] a b = refl
stamps_same sh d [] (t ∷ ts) [] a b = absurd b
stamps_same sh d (s ∷ ss) ts [] a b = absurd a
stamps_same sh d [] ts (n ∷ ns) a b = absurd a
stamps_same sh d (s ∷ ss) [] (n ∷ ns) a b = absurd b
stamps_same sh d (s ∷ ss) (t ∷ ts) (n ∷ ns) a b =
    let item : s.item ≡ t.item = a.0 ∙ sym b.0 in
    let name : s.name ≡ t.name = a.1 ∙ sym b.1 in
    let value : a.2.0 ≡ b.2.0 = some_is a.2.0 b.2.0 (sym a.2.1 ∙ b.2.1) in
    let stamp : s.stamp ≡ t.stamp = same_place sh d s.item t.item s.name t.name s.stamp t.stamp a.2.0 b.2.0 item name value a.2.2 b.2.2 in
    let rest : ss ≡ ts = stamps_same sh d ss ts ns a.3 b.3 in
    λ i. record { item = item i; name = name i; stamp = stamp i } ∷ rest i

-- stamps tell what they are of
pub needs_same : (sh : MemoCells) (ss : List Stamped) (ns ms : List Needed) → AreStamps sh ss ns → AreStamps sh ss ms → ns ≡ ms
needs_same sh [] [] [] a b = refl
needs_same sh [] [] (m ∷ ms) a b = absurd b
needs_same sh [] (n ∷ ns) ms a b = absurd a
needs_same sh (s ∷ ss) [] ms a b = absurd a
needs_same sh (s ∷ ss) (n ∷ ns) [] a b = absurd b
needs_same sh (s ∷ ss) (n ∷ ns) (m ∷ ms) a b =
    let item : n.item ≡ m.item = sym a.0 ∙ b.0 in
    let name : n.name ≡ m.name = sym a.1 ∙ b.1 in
    let value : n.value ≡ m.value = a.2.1 ∙ (sym a.2.2 ∙ (b.2.2 ∙ sym b.2.1)) in
    let rest : ns ≡ ms = needs_same sh ss ns ms a.3 b.3 in
    λ i. record { item = item i; name = name i; value = value i } ∷ rest i

pub stamps_grow : (old new : MemoCells) → Grows old new → (ss : List Stamped) (ns : List Needed) → AreStamps old ss ns → AreStamps new ss ns
stamps_grow old new g [] [] a = tt
stamps_grow old new g [] (n ∷ ns) a = absurd a
stamps_grow old new g (s ∷ ss) [] a = absurd a
stamps_grow old new g (s ∷ ss) (n ∷ ns) a = (a.0, a.1, (a.2.0, a.2.1, g s.item s.name s.stamp a.2.0 a.2.2), stamps_grow old new g ss ns a.3)

-- ---- the stamps of what is kept now

-- what is kept is what is defined
pub record IsKnown (sh : MemoCells) (ts : List ModuleText) (n : Key) : Type 0 where
  pub value : Value
  pub defined : definition ts n.kind n.name ≡ Some value
  pub kept : kept_of sh n.kind n.name ≡ Some value

-- a text that is needed is there
abbrev pub HasText : List ModuleText → Kind → List ℕ → Type 0
HasText ts kind.Parsed x = (t : List ℕ) × (text_of ts x ≡ Some t)
HasText ts kind.Lines x = (t : List ℕ) × (text_of ts x ≡ Some t)
HasText ts k x = Unit {0}

abbrev pub HasTexts : MemoCells → List ModuleText → Type 0
HasTexts sh ts = (x t : List ℕ) → text_of ts x ≡ Some t → kept_value (sh text x) ≡ Some (source t)

pub kept_stamp_at : (s : MemoCell) (v : Value) → kept_value s ≡ Some v → slice_get s.values (unwrap_or (kept_stamp s) 0) ≡ Some v
kept_stamp_at s v e = go s.kept e
  where
    go : (o : Option Kept) → value_under s.values o ≡ Some v → slice_get s.values (unwrap_or (option_map (λ (k : Kept). k.stamp) o) 0) ≡ Some v
    go None f = cc
    go (Some k) f = f

abbrev need_of : List ModuleText → Key → Needed
need_of ts n = record { item = result n.kind; name = n.name; value = definition ts n.kind n.name }

abbrev stamp_at : MemoCells → Key → Stamped
stamp_at sh n = stamp_of sh (result n.kind) n.name

results_are : (sh : MemoCells) (ts : List ModuleText) (ns : List Key) → Each (IsKnown sh ts) ns → AreStamps sh (map (stamp_at sh) ns) (map (need_of ts) ns)
results_are sh ts [] h = tt
results_are sh ts (n ∷ ns) h =
    (refl, refl, (h.0.value, h.0.defined, kept_stamp_at (sh (result n.kind) n.name) h.0.value h.0.kept), results_are sh ts ns h.1)

module _ (sh : MemoCells) (ts : List ModuleText) (texts : HasTexts sh ts) where
  text_is : (x : List ℕ) → ((t : List ℕ) × (text_of ts x ≡ Some t)) → (v : Value) × (option_map source (text_of ts x) ≡ Some v) × (slice_get (sh text x).values (stamp_of sh text x).stamp ≡ Some v)
  text_is x h = (source h.0, ap (option_map source) h.1, kept_stamp_at (sh text x) (source h.0) (texts x h.0 h.1))

  pub with_text : (k : Kind) (x : List ℕ) (ss : List Stamped) (ns : List Needed) → HasText ts k x → AreStamps sh ss ns → AreStamps sh (text_stamps sh k x ++ ss) (text_needed ts k x ++ ns)
  with_text kind.Parsed x ss ns h a = (refl, refl, text_is x h, a)
  with_text kind.Lines x ss ns h a = (refl, refl, text_is x h, a)
  with_text k x ss ns h a = a

  pub stamps_are : (k : Key) → HasText ts k.kind k.name → Each (IsKnown sh ts) (needs_in ts k) → AreStamps sh (stamps_now sh ts k) (needed ts k)
  stamps_are k h all = with_text k.kind k.name (map (stamp_at sh) (needs_in ts k)) (map (need_of ts) (needs_in ts k)) h (results_are sh ts (needs_in ts k) all)

-- ---- the same needs

abbrev item_of : Item → Kind
item_of text = kind.Parsed
item_of (result k) = k

abbrev key_of_need : Needed → Key
key_of_need n = record { kind = item_of n.item; name = n.name }

same_keys : (old new : List ModuleText) (ns ms : List Key) → map (need_of old) ns ≡ map (need_of new) ms → (ns ≡ ms) × Each (SameValue old new) ms
same_keys old new [] [] e = (refl, tt)
same_keys old new [] (m ∷ ms) e = cc
same_keys old new (n ∷ ns) [] e = cc
same_keys old new (n ∷ ns) (m ∷ ms) e =
    let head : need_of old n ≡ need_of new m = cc in
    let tail : map (need_of old) ns ≡ map (need_of new) ms = cc in
    let key : n ≡ m = ap key_of_need head in
    let value : definition old n.kind n.name ≡ definition new m.kind m.name = ap (λ (d : Needed). d.value) head in
    let rest = same_keys old new ns ms tail in (
      (λ i. key i ∷ rest.0 i),
      (sym (ap (λ (d : Key). definition old d.kind d.name) key) ∙ value, rest.1),
    )

-- what stands in a text is told by its values
source_is : (o p : Option (List ℕ)) → option_map source o ≡ option_map source p → o ≡ p
source_is None None e = refl
source_is None (Some u) e = cc
source_is (Some t) None e = cc
source_is (Some t) (Some u) e = cc

pub record SameNeeds (old new : List ModuleText) (k : Key) : Type 0 where
  pub text : SameText k.kind k.name old new
  pub needs : needs_in old k ≡ needs_in new k
  pub values : Each (SameValue old new) (needs_in new k)

abbrev text_need : List ModuleText → List ℕ → Needed
text_need ts x = record { item = text; name = x; value = option_map source (text_of ts x) }

abbrev results_of : List ModuleText → List Key → List Needed
results_of ts ns = map (need_of ts) ns

parts : (old new : List ModuleText) (k : Kind) (x : List ℕ) (ns ms : List Needed) → text_needed old k x ++ ns ≡ text_needed new k x ++ ms → SameText k x old new × (ns ≡ ms)
parts old new kind.Parsed x ns ms e =
    let head : text_need old x ≡ text_need new x = cc in
    let tail : ns ≡ ms = cc in
    (source_is (text_of old x) (text_of new x) (ap (λ (d : Needed). d.value) head), tail)
parts old new kind.Lines x ns ms e =
    let head : text_need old x ≡ text_need new x = cc in
    let tail : ns ≡ ms = cc in
    (source_is (text_of old x) (text_of new x) (ap (λ (d : Needed). d.value) head), tail)
parts old new kind.Symbols x ns ms e = (tt, e)
parts old new kind.CallGraph x ns ms e = (tt, e)
parts old new kind.Effects x ns ms e = (tt, e)
parts old new kind.Transformers x ns ms e = (tt, e)
parts old new kind.Preconditions x ns ms e = (tt, e)
parts old new kind.Regions x ns ms e = (tt, e)
parts old new kind.InRegions x ns ms e = (tt, e)
parts old new kind.OutRegions x ns ms e = (tt, e)
parts old new kind.Marks x ns ms e = (tt, e)
parts old new kind.Printed x ns ms e = (tt, e)

pub needed_same : (old new : List ModuleText) (k : Key) → needed old k ≡ needed new k → SameNeeds old new k
needed_same old new k e =
    let p = parts old new k.kind k.name (results_of old (needs_in old k)) (results_of new (needs_in new k)) e in
    let q = same_keys old new (needs_in old k) (needs_in new k) p.1 in
    record { text = p.0; needs = q.0; values = q.1 }

values_same : (old new : List ModuleText) (ms : List Key) → Each (SameValue old new) ms → results_of old ms ≡ results_of new ms
values_same old new [] h = refl
values_same old new (m ∷ ms) h = let v = h.0 in let rest = values_same old new ms h.1 in λ i. record { item = result m.kind; name = m.name; value = v i } ∷ rest i

joined : (old new : List ModuleText) (k : Kind) (x : List ℕ) (ns ms : List Needed) → SameText k x old new → ns ≡ ms → text_needed old k x ++ ns ≡ text_needed new k x ++ ms
joined old new kind.Parsed x ns ms s e = λ i. record { item = text; name = x; value = option_map source (s i) } ∷ e i
joined old new kind.Lines x ns ms s e = λ i. record { item = text; name = x; value = option_map source (s i) } ∷ e i
joined old new kind.Symbols x ns ms s e = e
joined old new kind.CallGraph x ns ms s e = e
joined old new kind.Effects x ns ms s e = e
joined old new kind.Transformers x ns ms s e = e
joined old new kind.Preconditions x ns ms s e = e
joined old new kind.Regions x ns ms s e = e
joined old new kind.InRegions x ns ms s e = e
joined old new kind.OutRegions x ns ms s e = e
joined old new kind.Marks x ns ms s e = e
joined old new kind.Printed x ns ms s e = e

pub same_needed : (old new : List ModuleText) (k : Key) → SameNeeds old new k → needed old k ≡ needed new k
same_needed old new k s =
    joined old new k.kind k.name (results_of old (needs_in old k)) (results_of new (needs_in new k)) s.text (ap (results_of old) s.needs ∙ values_same old new (needs_in new k) s.values)
