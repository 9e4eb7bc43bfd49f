-- What is kept stays as it was given, and results of stored kinds are not made again.
use Rattle.std.proofs.Common.{◌≡◌, ◌⊎◌, inl, inr, Bool, true, false, List, [], ◌∷◌, ◌++◌, map, Option, Some, None, refl, sym, ap, ◌∙◌, subst, append_assoc, append-nil}
use Rattle.std.specs.Prelude.{option_map, IfSome}
use Rattle.std.specs.List.{list_all}
use Rattle.call_graph.specs.CallsIn.{Each}
use Rattle.session_texts.specs.pipsmake_rules.declared.kind.Kind.{Kind}
use Rattle.session_texts.specs.pipsmake_rules.declared.kind.Kind.TheVariants as kind
use Rattle.session_texts.specs.pipsmake_rules.declared.key.Key.{Key}
use Rattle.session_texts.specs.pipsmake_rules.Keys.{same_key, holds}
use Rattle.session_texts.specs.pipsmake_rules.Neighbours.{has_name}
use Rattle.session_texts.proofs.PipsmakeRules.KeyLaws.{same_key-true}
use Rattle.session_texts.specs.pipsmake_meaning.Values.{Value, source, result}
use Rattle.session_texts.specs.pipsmake_meaning.Texts.{ModuleText, names_in, text_of}
use Rattle.session_texts.specs.pipsmake_meaning.Session.{needs_in}
use Rattle.session_texts.specs.pipsmake_meaning.MemoCells.{MemoCells, MemoCell, Stamped, Kept, value_under, kept_value, kept_of, KeepsIn}
use Rattle.session_texts.specs.pipsmake_meaning.Rules.{rule_value}
use Rattle.session_texts.specs.pipsmake_meaning.Making.{stamp_of, stamps_now, IsCurrent, AllStay, Makes, Brings, BringsAll}
use Rattle.laws_database.specs.Stands.{Needed, AreStamps, Valuation, needed_with, HasValue, KeepsValues}
use Rattle.laws_database.specs.Unverified.{IsStored, RestsOn}
use Rattle.laws_database.proofs.Stamps.{Grows, stamps_same, stamps_grow, HasText, kept_stamp_at, with_text}
use Rattle.laws_database.proofs.Keeping.{all_held, each_last, texts_of, grows, distinct_now, other_result, texts_now, kept_now}
use Rattle.fx_lists.proofs.Booleans.{or_neither as either}

-- ---- a kind is stored or not

pub stored_or : (k : Kind) → IsStored k ⊎ (IsStored k → ⊥)
stored_or kind.Parsed = inr (λ e. e)
stored_or kind.Lines = inr (λ e. e)
stored_or kind.Symbols = inr (λ e. e)
stored_or kind.CallGraph = inr (λ e. e)
stored_or kind.Effects = inl tt
stored_or kind.Transformers = inl tt
stored_or kind.Preconditions = inl tt
stored_or kind.Regions = inl tt
stored_or kind.InRegions = inl tt
stored_or kind.OutRegions = inl tt
stored_or kind.Marks = inl tt
stored_or kind.Printed = inr (λ e. e)

-- what is kept has this value
pub record IsKept (d : Valuation) (sh : MemoCells) (n : Key) : Type 0 where
  pub value : Value
  pub is : d n.kind n.name ≡ Some value
  pub kept : kept_of sh n.kind n.name ≡ Some value

-- what values have to do with rules
pub record RestFacts (ts : List ModuleText) (d : Valuation) (Can : Key → Type 0) : Type 0 where
  pub has : (k : Key) → Can k → HasText ts k.kind k.name
  pub named : (k : Key) → Can k → IsStored k.kind → has_name (names_in ts) k.name ≡ true
  pub some : (k : Key) → Can k → (IsStored k.kind → ⊥) → (v : Value) × (d k.kind k.name ≡ Some v)
  pub rule : (sh : MemoCells) (k : Key) → Can k → (IsStored k.kind → ⊥) → Each (IsKept d sh) (needs_in ts k) → rule_value sh ts k ≡ d k.kind k.name

-- what bringing some results up to date comes to
pub record Rested (ts : List ModuleText) (d : Valuation) (walk now : List Key) (new : MemoCells) : Type 0 where
  pub rests : RestsOn new ts d
  pub none_stored : Each (λ (n : Key). IsStored n.kind → ⊥) now
  pub known : Each (IsKept d new) walk

module _ (ts : List ModuleText) (d : Valuation) where
  -- ---- stamps

  abbrev need : Key → Needed
  need n = record { item = result n.kind; name = n.name; value = d n.kind n.name }

  results_are : (sh : MemoCells) (ns : List Key) → Each (IsKept d sh) ns → AreStamps sh (map (λ (n : Key). stamp_of sh (result n.kind) n.name) ns) (map need ns)
  results_are sh [] h = tt
  results_are sh (n ∷ ns) h = (refl, refl, (h.0.value, h.0.is, kept_stamp_at (sh (result n.kind) n.name) h.0.value h.0.kept), results_are sh ns h.1)

  now_are : (sh : MemoCells) → KeepsValues sh ts d → (k : Key) → HasText ts k.kind k.name → Each (IsKept d sh) (needs_in ts k) → AreStamps sh (stamps_now sh ts k) (needed_with ts d k)
  now_are sh r k has known =
      with_text sh ts (texts_of sh ts r.texts) k.kind k.name (map (λ (n : Key). stamp_of sh (result n.kind) n.name) (needs_in ts k)) (map need (needs_in ts k)) has (results_are sh (needs_in ts k) known)

  -- ---- what is current

  current_kept : (sh : MemoCells) → KeepsValues sh ts d → (k : Key) → IsCurrent sh ts k → IsKept d sh k
  current_kept sh r k e = go ((sh (result k.kind) k.name).kept) refl (r.kept k.kind k.name) e
    where
      go : (o : Option Kept) → (sh (result k.kind) k.name).kept ≡ o → IfSome o (λ kept. HasValue sh ts d k kept) → option_map (λ (c : Kept). c.needs) o ≡ Some (stamps_now sh ts k) → IsKept d sh k
      go None p w f = cc
      go (Some kept) p w f = record { value = w.value; is = w.is; kept = ap (value_under (sh (result k.kind) k.name).values) p ∙ w.at }

  stored_current : (sh : MemoCells) → RestsOn sh ts d → (k : Key) → HasText ts k.kind k.name → IsStored k.kind → has_name (names_in ts) k.name ≡ true → Each (IsKept d sh) (needs_in ts k) → IsCurrent sh ts k
  stored_current sh r k has s named known =
      let there = r.stored k.kind k.name s named in
      let w : HasValue sh ts d k there.0 = subst (λ o. IfSome o (λ kept. HasValue sh ts d k kept)) there.1 (r.keeps.kept k.kind k.name) in
      ap (option_map (λ (c : Kept). c.needs)) there.1
      ∙ ap (λ ss. Some ss) (stamps_same sh r.keeps.distinct there.0.needs (stamps_now sh ts k) (needed_with ts d k) w.needs (now_are sh r.keeps k has known))

  -- ---- what is made

  pub value_grows : (old new : MemoCells) → Grows old new → (k : Key) (o : Option Kept) → IfSome o (λ kept. HasValue old ts d k kept) → IfSome o (λ kept. HasValue new ts d k kept)
  value_grows old new g k None w = tt
  value_grows old new g k (Some kept) w = record {
    value = w.value;
    is = w.is;
    at = g (result k.kind) k.name kept.stamp w.value w.at;
    needs = stamps_grow old new g kept.needs (needed_with ts d k) w.needs;
  }

  module _ (sh mid : MemoCells) (k : Key) (v : Value) (ss : List Stamped) (r : KeepsValues sh ts d) (is : d k.kind k.name ≡ Some v) (keeps : KeepsIn sh mid (result k.kind) k.name v ss) (stamps : AreStamps sh ss (needed_with ts d k)) where
    grown : Grows sh mid
    grown = grows sh mid k v ss keeps

    abbrev Has : Key → Type 0
    Has j = IfSome ((mid (result j.kind) j.name).kept) (λ kept. HasValue mid ts d j kept)

    it_has : Has k
    it_has =
        let kept : Kept = record { stamp = keeps.keeps.stamp; needs = ss } in
        let has : HasValue mid ts d k kept = record { value = v; is = is; at = keeps.keeps.at; needs = stamps_grow sh mid grown ss (needed_with ts d k) stamps } in
        subst (λ o. IfSome o (λ kept. HasValue mid ts d k kept)) (sym keeps.keeps.kept) has

    other_has : (j : Key) → same_key j k ≡ false → Has j
    other_has j e =
        subst (λ (s : MemoCell). IfSome s.kept (λ kept. HasValue mid ts d j kept)) (sym (other_result sh mid k v ss keeps j e))
        (value_grows sh mid grown j ((sh (result j.kind) j.name).kept) (r.kept j.kind j.name))

    each_has : (j : Key) → Has j
    each_has j = go (same_key j k) refl
      where
        go : (b : Bool) → same_key j k ≡ b → Has j
        go true e = subst Has (sym (same_key-true j k e)) it_has
        go false e = other_has j e

    pub keeps_later : KeepsValues mid ts d
    keeps_later = record {
      modules = r.modules;
      texts = λ x. subst (λ (s : MemoCell). IfSome (text_of ts x) (λ t. kept_value s ≡ Some (source t))) (sym (texts_now sh mid k v ss keeps x)) (r.texts x);
      distinct = distinct_now sh mid k v ss keeps r.distinct;
      kept = λ q x. each_has (record { kind = q; name = x });
    }

    kept_still : (done : List Key) → holds done k ≡ false → Each (IsKept d sh) done → Each (IsKept d mid) done
    kept_still [] e h = tt
    kept_still (n ∷ ns) e h =
        let p = either (same_key n k) (holds ns k) e in
        let one : IsKept d sh n = h.0 in
        (record { value = one.value; is = one.is; kept = ap kept_value (other_result sh mid k v ss keeps n p.0) ∙ one.kept }, kept_still ns p.1 h.1)

  module _ (sh mid : MemoCells) (k : Key) (v : Value) (ss : List Stamped) (r : RestsOn sh ts d) (other : IsStored k.kind → ⊥) (is : d k.kind k.name ≡ Some v) (keeps : KeepsIn sh mid (result k.kind) k.name v ss)
      (stamps : AreStamps sh ss (needed_with ts d k)) where
    each_stored : (j : Key) → IsStored j.kind → has_name (names_in ts) j.name ≡ true → (kept : Kept) × ((mid (result j.kind) j.name).kept ≡ Some kept)
    each_stored j s n = go (same_key j k) refl
      where
        go : (b : Bool) → same_key j k ≡ b → (kept : Kept) × ((mid (result j.kind) j.name).kept ≡ Some kept)
        go true e = absurd (other (subst (λ (q : Key). IsStored q.kind) (same_key-true j k e) s))
        go false e = let old = r.stored j.kind j.name s n in (old.0, ap (λ (s : MemoCell). s.kept) (other_result sh mid k v ss keeps j e) ∙ old.1)

    rests_later : RestsOn mid ts d
    rests_later = record { keeps = keeps_later sh mid k v ss r.keeps is keeps stamps; stored = λ q x. each_stored (record { kind = q; name = x }) }

  -- ---- one result after another

  module _ (Can : Key → Type 0) (facts : RestFacts ts d Can) (walk : List Key)
      (order : (before : List Key) (k : Key) (after : List Key) → walk ≡ before ++ k ∷ after → (holds before k ≡ false) × (list_all (λ n. holds before n) (needs_in ts k) ≡ true)) where
    not_some : (o : Option Value) (v : Value) → o ≡ Some v → o ≡ None → ⊥
    not_some None v e f = cc
    not_some (Some w) v e f = cc

    abbrev Goal : List Key → Type 0
    Goal ks =
        (done : List Key) (sh new : MemoCells) (now : List Key) → walk ≡ done ++ ks → Each Can ks → RestsOn sh ts d → Each (IsKept d sh) done → BringsAll sh ts ks now new → Rested ts d walk now new

    last : Goal []
    last done sh new now w can r known b =
        let same : sh ≡ new = (λ i item x. sym (b.1 item x) i) in
        record {
          rests = subst (λ (s : MemoCells). RestsOn s ts d) same r;
          none_stored = subst (Each (λ (n : Key). IsStored n.kind → ⊥)) (sym b.0) tt;
          known = subst (λ (s : MemoCells). Each (IsKept d s) walk) same (subst (Each (IsKept d sh)) (sym (w ∙ append-nil done)) known);
        }

    module _ (k : Key) (ks : List Key) (ih : Goal ks) where
      next : Goal (k ∷ ks)
      next done sh new now w can r known b = go b.3 (stored_or k.kind)
        where
          place : (holds done k ≡ false) × (list_all (λ n. holds done n) (needs_in ts k) ≡ true)
          place = order done k ks w

          has : HasText ts k.kind k.name
          has = facts.has k can.0

          needs : Each (IsKept d sh) (needs_in ts k)
          needs = all_held (IsKept d sh) done (needs_in ts k) known place.1

          onward : walk ≡ (done ++ k ∷ []) ++ ks
          onward = w ∙ sym (append_assoc done (k ∷ []) ks)

          current : IsStored k.kind → IsCurrent sh ts k
          current s = stored_current sh r k has s (facts.named k can.0 s) needs

          stays : IsKept d sh k → b.1 ≡ [] → AllStay sh b.0 → Rested ts d walk now new
          stays one f s =
              let same : sh ≡ b.0 = (λ i item x. sym (s item x) i) in
              let all : now ≡ b.2 = b.5 ∙ ap (λ ns. ns ++ b.2) f in
              let q = ih (done ++ k ∷ []) b.0 new b.2 onward can.1 (subst (λ (z : MemoCells). RestsOn z ts d) same r)
              (subst (λ (z : MemoCells). Each (IsKept d z) (done ++ k ∷ [])) same (each_last (IsKept d sh) done k known one)) b.4 in
              record { rests = q.rests; none_stored = subst (Each (λ (n : Key). IsStored n.kind → ⊥)) (sym all) q.none_stored; known = q.known }

          makes : (IsStored k.kind → ⊥) → b.1 ≡ k ∷ [] → Makes sh b.0 ts k → Rested ts d walk now new
          makes other f m =
              let is : d k.kind k.name ≡ Some m.value = sym (facts.rule sh k can.0 other needs) ∙ m.rule in
              let stamps = now_are sh r.keeps k has needs in
              let all : now ≡ k ∷ b.2 = b.5 ∙ ap (λ ns. ns ++ b.2) f in
              let one : IsKept d b.0 k = record { value = m.value; is = is; kept = kept_now sh b.0 k m.value (stamps_now sh ts k) m.keeps } in
              let q = ih (done ++ k ∷ []) b.0 new b.2 onward can.1 (rests_later sh b.0 k m.value (stamps_now sh ts k) r other is m.keeps stamps)
              (each_last (IsKept d b.0) done k (kept_still sh b.0 k m.value (stamps_now sh ts k) r.keeps is m.keeps stamps done place.0 known) one) b.4 in
              record { rests = q.rests; none_stored = subst (Each (λ (n : Key). IsStored n.kind → ⊥)) (sym all) (other, q.none_stored); known = q.known }

          lacks : (IsStored k.kind → ⊥) → rule_value sh ts k ≡ None → ⊥
          lacks other e = let v = facts.some k can.0 other in not_some (rule_value sh ts k) v.0 (facts.rule sh k can.0 other needs ∙ v.1) e

          go : Brings sh ts k b.1 b.0 → IsStored k.kind ⊎ (IsStored k.kind → ⊥) → Rested ts d walk now new
          go (inl s) (inl stored) = stays (current_kept sh r.keeps k (current stored)) s.1 s.2
          go (inl s) (inr other) = elim s.0 [ inl e ↦ stays (current_kept sh r.keeps k e) s.1 s.2 | inr e ↦ absurd (lacks other e) ]
          go (inr s) (inl stored) = absurd (s.1.outdated (current stored))
          go (inr s) (inr other) = makes other s.0 s.1

    pub rested : (ks : List Key) → Goal ks
    rested [] = last
    rested (k ∷ ks) = next k ks (rested ks)
