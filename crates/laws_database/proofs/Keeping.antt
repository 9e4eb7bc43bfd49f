-- One result after another is brought up to date.
use Rattle.std.proofs.Common.{◌≡◌, ◌⊎◌, inl, inr, ℕ, Bool, true, false, ◌||◌, List, [], ◌∷◌, ◌++◌, Option, Some, None, refl, sym, ap, ◌∙◌, subst, append_assoc, append-nil}
use Rattle.std.specs.Prelude.{slice_get, option_map, IfSome, if◌then◌else◌}
use Rattle.std.specs.List.{list_all}
use Rattle.std.proofs.lemmas.Bool.{and_parts, or_cases}
use Rattle.call_graph.specs.CallsIn.{Each}
use Rattle.session_texts.specs.pipsmake_rules.declared.key.Key.{Key}
use Rattle.session_texts.specs.pipsmake_rules.Keys.{same_key, holds}
use Rattle.session_texts.proofs.PipsmakeRules.KeyLaws.{same_key-true, same_key_self, holds-last, holds-more, holds-cases}
use Rattle.session_texts.specs.pipsmake_meaning.Values.{Value, source, Item, text, result}
use Rattle.session_texts.specs.pipsmake_meaning.Texts.{ModuleText, AreModules, text_of}
use Rattle.session_texts.specs.pipsmake_meaning.Definitions.{definition}
use Rattle.session_texts.specs.pipsmake_meaning.Session.{Makings, needs_in, UpToDate, MadeOf, made_now}
use Rattle.session_texts.specs.pipsmake_meaning.MemoCells.{MemoCells, MemoCell, Stamped, Kept, value_under, kept_value, kept_of, AreDistinct, KeepsIn}
use Rattle.session_texts.specs.pipsmake_meaning.Rules.{rule_value}
use Rattle.session_texts.specs.pipsmake_meaning.Making.{stamps_now, IsCurrent, AllStay, Makes, Brings, BringsAll}
use Rattle.laws_database.specs.Stands.{needed, AreStamps, WasMade, KeptStands, StandsFor}
use Rattle.laws_database.proofs.Stamps.{adds_keep, adds_distinct, Distinct, Grows, stamps_same, needs_same, stamps_grow, IsKnown, HasText, HasTexts, stamps_are, SameNeeds, needed_same, same_needed}
use Rattle.fx_lists.proofs.Booleans.{no_both as clash, or_neither as either}

-- ---- lists of results

pub holds_other : (ks : List Key) (k j : Key) → same_key k j ≡ false → holds (ks ++ k ∷ []) j ≡ holds ks j
holds_other [] k j e = ap (λ b. b || false) e
holds_other (i ∷ is) k j e = ap (λ b. same_key i j || b) (holds_other is k j e)

pub held : (P : Key → Type 0) (done : List Key) (n : Key) → Each P done → holds done n ≡ true → P n
held P [] n h e = cc
held P (d ∷ ds) n h e =
    elim (or_cases (same_key d n) (holds ds n) e) [
      | inl s ↦ subst P (same_key-true d n s) h.0
      | inr r ↦ held P ds n h.1 r
    ]

pub all_held : (P : Key → Type 0) (done ns : List Key) → Each P done → list_all (λ n. holds done n) ns ≡ true → Each P ns
all_held P done [] h e = tt
all_held P done (n ∷ ns) h e = let p = and_parts (holds done n) (list_all (λ m. holds done m) ns) e in (held P done n h p.0, all_held P done ns h p.1)

pub each_last : (P : Key → Type 0) (done : List Key) (k : Key) → Each P done → P k → Each P (done ++ k ∷ [])
each_last P [] k h p = (p, tt)
each_last P (d ∷ ds) k h p = (h.0, each_last P ds k h.1 p)

-- ---- what stays

pub kept_grow : (old new : MemoCells) → Grows old new → (k : Key) (o : Option Kept) (m : Option (List ModuleText)) → KeptStands old k o m → KeptStands new k o m
kept_grow old new g k None None s = tt
kept_grow old new g k None (Some t) s = absurd s
kept_grow old new g k (Some kept) None s = absurd s
kept_grow old new g k (Some kept) (Some t) s = record {
  modules = s.modules;
  value = s.value;
  is = s.is;
  at = g (result k.kind) k.name kept.stamp s.value s.at;
  needs = stamps_grow old new g kept.needs (needed t k) s.needs;
}

pub texts_of : (sh : MemoCells) (ts : List ModuleText) → ((x : List ℕ) → IfSome (text_of ts x) (λ t. kept_value (sh text x) ≡ Some (source t))) → HasTexts sh ts
texts_of sh ts h x t e = subst (λ o. IfSome o (λ u. kept_value (sh text x) ≡ Some (source u))) e (h x)

-- ---- what is current

module _ (ts : List ModuleText) (sh : MemoCells) (made : Makings) (stands : StandsFor sh ts made) (k : Key) (has : HasText ts k.kind k.name) (known : Each (IsKnown sh ts) (needs_in ts k)) where
  now_are : AreStamps sh (stamps_now sh ts k) (needed ts k)
  now_are = stamps_are sh ts (texts_of sh ts stands.texts) k has known

  pub current_is : ((old : List ModuleText) (v : Value) → AreModules old → definition old k.kind k.name ≡ Some v → SameNeeds old ts k → definition ts k.kind k.name ≡ Some v) →
      IsCurrent sh ts k → UpToDate made ts k × IsKnown sh ts k
  current_is same e = go ((sh (result k.kind) k.name).kept) (made k.kind k.name) refl refl (stands.kept k.kind k.name) e
    where
      go : (o : Option Kept) (m : Option (List ModuleText)) → (sh (result k.kind) k.name).kept ≡ o → made k.kind k.name ≡ m → KeptStands sh k o m → option_map (λ (d : Kept). d.needs) o ≡ Some (stamps_now sh ts k) → UpToDate made ts k × IsKnown sh ts k
      go None m p q w f = cc
      go (Some kept) None p q w f = absurd w
      go (Some kept) (Some old) p q w f =
          let eq : kept.needs ≡ stamps_now sh ts k = cc in
          let s : SameNeeds old ts k = needed_same old ts k (needs_same sh (stamps_now sh ts k) (needed old k) (needed ts k) (subst (λ ss. AreStamps sh ss (needed old k)) eq w.needs) now_are) in (
            record { old = old; was_made = q; text = s.text; needs = s.needs; values = s.values },
            record { value = w.value; defined = same old w.value w.modules w.is s; kept = ap (value_under (sh (result k.kind) k.name).values) p ∙ w.at },
          )

  pub current_from : UpToDate made ts k → IsCurrent sh ts k
  current_from u = go ((sh (result k.kind) k.name).kept) (made k.kind k.name) (stands.kept k.kind k.name) u.was_made
    where
      go : (o : Option Kept) (m : Option (List ModuleText)) → KeptStands sh k o m → m ≡ Some u.old → option_map (λ (d : Kept). d.needs) o ≡ Some (stamps_now sh ts k)
      go None None w e = cc
      go None (Some old) w e = absurd w
      go (Some kept) None w e = cc
      go (Some kept) (Some old) w e =
          let eq : old ≡ u.old = cc in
          let n : needed old k ≡ needed ts k = ap (λ us. needed us k) eq ∙ same_needed u.old ts k (record { text = u.text; needs = u.needs; values = u.values }) in
          ap (λ z. Some z) (stamps_same sh stands.distinct kept.needs (stamps_now sh ts k) (needed ts k) (subst (AreStamps sh kept.needs) n w.needs) now_are)

-- ---- what is made

module _ (sh mid : MemoCells) (k : Key) (v : Value) (ss : List Stamped) (keeps : KeepsIn sh mid (result k.kind) k.name v ss) where
  abbrev IsThere : Item → List ℕ → Type 0
  IsThere item y = (item ≡ result k.kind) × (y ≡ k.name)

  decide : (item : Item) (y : List ℕ) → IsThere item y ⊎ (IsThere item y → ⊥)
  decide text y = inr (λ e. (let f : text ≡ result k.kind = e.0 in cc))
  decide (result j) y = go (same_key (record { kind = j; name = y }) k) refl
    where
      go : (b : Bool) → same_key (record { kind = j; name = y }) k ≡ b → IsThere (result j) y ⊎ (IsThere (result j) y → ⊥)
      go true e = let p : record { kind = j; name = y } ≡ k = same_key-true (record { kind = j; name = y }) k e in inl (ap (λ (d : Key). result d.kind) p, ap (λ (d : Key). d.name) p)
      go false e =
          inr (λ p. clash (same_key k k) (same_key_self k)
          ((let f : result j ≡ result k.kind = p.0 in let q : j ≡ k.kind = cc in (λ i. same_key (record { kind = sym q i; name = sym p.1 i }) k) ∙ e)))

  at_it : (P : MemoCell → MemoCell → Type 0) → P (sh (result k.kind) k.name) (mid (result k.kind) k.name) → ((s : MemoCell) → P s s) → (item : Item) (y : List ℕ) → P (sh item y) (mid item y)
  at_it P here other item y =
      elim (decide item y) [
        | inl e ↦ subst (λ a. P (sh a y) (mid a y)) (sym e.0) (subst (λ b. P (sh (result k.kind) b) (mid (result k.kind) b)) (sym e.1) here)
        | inr n ↦ subst (λ s. P (sh item y) s) (sym (keeps.others item y n)) (other (sh item y))
      ]

  pub grows : Grows sh mid
  grows =
      at_it (λ s t. (i : ℕ) (w : Value) → slice_get s.values i ≡ Some w → slice_get t.values i ≡ Some w)
      (λ i w e. adds_keep (sh (result k.kind) k.name).values (mid (result k.kind) k.name).values v w i keeps.keeps.values e) (λ s i w e. e)

  pub distinct_now : Distinct sh → Distinct mid
  distinct_now d item y =
      at_it (λ s t. AreDistinct s.values → AreDistinct t.values) (adds_distinct (sh (result k.kind) k.name).values (mid (result k.kind) k.name).values v keeps.keeps.values) (λ s e. e) item y (d item y)

  pub other_result : (n : Key) → same_key n k ≡ false → mid (result n.kind) n.name ≡ sh (result n.kind) n.name
  other_result n e =
      keeps.others (result n.kind) n.name
      (λ p. clash (same_key k k) (same_key_self k) ((let f : result n.kind ≡ result k.kind = p.0 in let q : n.kind ≡ k.kind = cc in (λ i. same_key (record { kind = sym q i; name = sym p.1 i }) k) ∙ e)))

  pub texts_now : (x : List ℕ) → mid text x ≡ sh text x
  texts_now x = keeps.others text x (λ e. (let f : text ≡ result k.kind = e.0 in cc))

  pub known_still : (ts : List ModuleText) (done : List Key) → holds done k ≡ false → Each (IsKnown sh ts) done → Each (IsKnown mid ts) done
  known_still ts [] e h = tt
  known_still ts (d ∷ ds) e h =
      let p = either (same_key d k) (holds ds k) e in
      let one : IsKnown sh ts d = h.0 in
      (record { value = one.value; defined = one.defined; kept = ap kept_value (other_result d p.0) ∙ one.kept }, known_still ts ds p.1 h.1)

  pub kept_now : kept_of mid k.kind k.name ≡ Some v
  kept_now = ap (value_under (mid (result k.kind) k.name).values) keeps.keeps.kept ∙ keeps.keeps.at

-- ---- a result that is kept keeps what values stand for

module _ (ts : List ModuleText) (made : Makings) (so_far : List Key) (sh mid : MemoCells) (k : Key) (v : Value) (ss : List Stamped) (stands : StandsFor sh ts (made_now made ts so_far)) (is : definition ts k.kind k.name ≡ Some v)
    (keeps : KeepsIn sh mid (result k.kind) k.name v ss) (stamps : AreStamps sh ss (needed ts k)) where
  abbrev later : List Key
  later = so_far ++ k ∷ []

  abbrev Stands : Key → Type 0
  Stands j = KeptStands mid j ((mid (result j.kind) j.name).kept) (made_now made ts later j.kind j.name)

  it_stands : Stands k
  it_stands =
      let g = grows sh mid k v ss keeps in
      let kept : Kept = record { stamp = keeps.keeps.stamp; needs = ss } in
      let was : WasMade mid k kept ts = record { modules = stands.modules; value = v; is = is; at = keeps.keeps.at; needs = stamps_grow sh mid g ss (needed ts k) stamps } in
      subst (λ o. KeptStands mid k o (made_now made ts later k.kind k.name)) (sym keeps.keeps.kept)
      (subst (λ b. KeptStands mid k (Some kept) (if b then Some ts else made k.kind k.name)) (sym (holds-last so_far k)) was)

  other_stands : (j : Key) → same_key k j ≡ false → same_key j k ≡ false → Stands j
  other_stands j e f =
      let g = grows sh mid k v ss keeps in
      subst (λ (s : MemoCell). KeptStands mid j s.kept (made_now made ts later j.kind j.name)) (sym (other_result sh mid k v ss keeps j f))
      (subst (λ b. KeptStands mid j ((sh (result j.kind) j.name).kept) (if b then Some ts else made j.kind j.name)) (sym (holds_other so_far k j e))
      (kept_grow sh mid g j ((sh (result j.kind) j.name).kept) (made_now made ts so_far j.kind j.name) (stands.kept j.kind j.name)))

  each_stands : (j : Key) → Stands j
  each_stands j = go (same_key k j) (same_key j k) refl refl
    where
      go : (b c : Bool) → same_key k j ≡ b → same_key j k ≡ c → Stands j
      go true c e f = subst Stands (same_key-true k j e) it_stands
      go false true e f = subst Stands (sym (same_key-true j k f)) it_stands
      go false false e f = other_stands j e f

  pub stands_later : StandsFor mid ts (made_now made ts later)
  stands_later = record {
    modules = stands.modules;
    texts = λ x. subst (λ (s : MemoCell). IfSome (text_of ts x) (λ t. kept_value s ≡ Some (source t))) (sym (texts_now sh mid k v ss keeps x)) (stands.texts x);
    distinct = distinct_now sh mid k v ss keeps stands.distinct;
    kept = λ kind x. each_stands (record { kind = kind; name = x });
  }

-- ---- one result after another

-- what the definitions of these texts give
pub record Facts (ts : List ModuleText) (Can : Key → Type 0) : Type 0 where
  pub has : (k : Key) → Can k → HasText ts k.kind k.name
  pub some : (k : Key) → Can k → (v : Value) × (definition ts k.kind k.name ≡ Some v)
  pub rule : (sh : MemoCells) (k : Key) (v : Value) → Can k → Each (IsKnown sh ts) (needs_in ts k) → definition ts k.kind k.name ≡ Some v → rule_value sh ts k ≡ Some v
  pub same : (k : Key) → Can k → (old : List ModuleText) (v : Value) → AreModules old → definition old k.kind k.name ≡ Some v → SameNeeds old ts k → definition ts k.kind k.name ≡ Some v

-- what bringing some results up to date comes to
pub record Brought (ts : List ModuleText) (made : Makings) (walk ks so_far now : List Key) (new : MemoCells) : Type 0 where
  pub are_made : MadeOf made ts ks now
  pub stands : StandsFor new ts (made_now made ts (so_far ++ now))
  pub known : Each (IsKnown new ts) walk

module _ (ts : List ModuleText) (Can : Key → Type 0) (facts : Facts ts Can) (made : Makings) (walk : List Key)
    (order : (before : List Key) (k : Key) (after : List Key) → walk ≡ before ++ k ∷ after → (holds before k ≡ false) × (list_all (λ n. holds before n) (needs_in ts k) ≡ true)) where
  not_some : (o : Option Value) (v : Value) → o ≡ Some v → o ≡ None → ⊥
  not_some None v e f = cc
  not_some (Some w) v e f = cc

  up_as : (so_far : List Key) (k : Key) → holds so_far k ≡ false → made_now made ts so_far k.kind k.name ≡ made k.kind k.name
  up_as so_far k e = ap (λ b. if b then Some ts else made k.kind k.name) e

  up_to : (so_far : List Key) (k : Key) → holds so_far k ≡ false → UpToDate (made_now made ts so_far) ts k → UpToDate made ts k
  up_to so_far k e u = record { old = u.old; was_made = sym (up_as so_far k e) ∙ u.was_made; text = u.text; needs = u.needs; values = u.values }

  up_from : (so_far : List Key) (k : Key) → holds so_far k ≡ false → UpToDate made ts k → UpToDate (made_now made ts so_far) ts k
  up_from so_far k e u = record { old = u.old; was_made = up_as so_far k e ∙ u.was_made; text = u.text; needs = u.needs; values = u.values }

  abbrev Within : List Key → List Key → Type 0
  Within so_far done = (j : Key) → holds so_far j ≡ true → holds done j ≡ true

  out_of : (so_far done : List Key) → Within so_far done → (k : Key) → holds done k ≡ false → holds so_far k ≡ false
  out_of so_far done w k e = go (holds so_far k) refl
    where
      go : (b : Bool) → holds so_far k ≡ b → b ≡ false
      go true f = absurd (clash (holds done k) (w k f) e)
      go false f = refl

  within_more : (so_far done : List Key) (k : Key) → Within so_far done → Within so_far (done ++ k ∷ [])
  within_more so_far done k w j e = holds-more done k j (w j e)

  within_both : (so_far done : List Key) (k : Key) → Within so_far done → Within (so_far ++ k ∷ []) (done ++ k ∷ [])
  within_both so_far done k w j e =
      elim (holds-cases so_far k j e) [
        | inl h ↦ holds-more done k j (w j h)
        | inr s ↦ subst (λ d. holds (done ++ k ∷ []) d ≡ true) s (holds-last done k)
      ]

  abbrev Goal : List Key → Type 0
  Goal ks =
      (done so_far : List Key) (sh new : MemoCells) (now : List Key) → walk ≡ done ++ ks → Each Can ks → Within so_far done → StandsFor sh ts (made_now made ts so_far) → Each (IsKnown sh ts) done → BringsAll sh ts ks now new →
      Brought ts made walk ks so_far now new

  last : Goal []
  last done so_far sh new now w can within stands known b =
      let same : sh ≡ new = (λ i item x. sym (b.1 item x) i) in
      record {
        are_made = b.0;
        stands = subst (λ (s : MemoCells). StandsFor s ts (made_now made ts (so_far ++ now))) same (subst (λ ns. StandsFor sh ts (made_now made ts ns)) (sym (append-nil so_far) ∙ ap (λ ns. so_far ++ ns) (sym b.0)) stands);
        known = subst (λ (s : MemoCells). Each (IsKnown s ts) walk) same (subst (Each (IsKnown sh ts)) (sym (w ∙ append-nil done)) known);
      }

  module _ (k : Key) (ks : List Key) (ih : Goal ks) where
    next : Goal (k ∷ ks)
    next done so_far sh new now w can within stands known b = go b.3
      where
        place : (holds done k ≡ false) × (list_all (λ n. holds done n) (needs_in ts k) ≡ true)
        place = order done k ks w

        has : HasText ts k.kind k.name
        has = facts.has k can.0

        needs : Each (IsKnown sh ts) (needs_in ts k)
        needs = all_held (IsKnown sh ts) done (needs_in ts k) known place.1

        new_so_far : holds so_far k ≡ false
        new_so_far = out_of so_far done within k place.0

        onward : walk ≡ (done ++ k ∷ []) ++ ks
        onward = w ∙ sym (append_assoc done (k ∷ []) ks)

        stays : IsCurrent sh ts k → b.1 ≡ [] → AllStay sh b.0 → Brought ts made walk (k ∷ ks) so_far now new
        stays e f s =
            let c = current_is ts sh (made_now made ts so_far) stands k has needs (facts.same k can.0) e in
            let same : sh ≡ b.0 = (λ i item x. sym (s item x) i) in
            let all : now ≡ b.2 = b.5 ∙ ap (λ ns. ns ++ b.2) f in
            let r = ih (done ++ k ∷ []) so_far b.0 new b.2 onward can.1 (within_more so_far done k within)
            (subst (λ (z : MemoCells). StandsFor z ts (made_now made ts so_far)) same stands)
            (subst (λ (z : MemoCells). Each (IsKnown z ts) (done ++ k ∷ [])) same (each_last (IsKnown sh ts) done k known c.1)) b.4 in
            record {
              are_made = inl (up_to so_far k new_so_far c.0, subst (MadeOf made ts ks) (sym all) r.are_made);
              stands = subst (λ ns. StandsFor new ts (made_now made ts (so_far ++ ns))) (sym all) r.stands;
              known = r.known;
            }

        makes : b.1 ≡ k ∷ [] → Makes sh b.0 ts k → Brought ts made walk (k ∷ ks) so_far now new
        makes f m =
            let d = facts.some k can.0 in
            let is : definition ts k.kind k.name ≡ Some m.value = d.1 ∙ (sym (facts.rule sh k d.0 can.0 needs d.1) ∙ m.rule) in
            let stamps = now_are ts sh (made_now made ts so_far) stands k has needs in
            let all : now ≡ k ∷ b.2 = b.5 ∙ ap (λ ns. ns ++ b.2) f in
            let one : IsKnown b.0 ts k = record { value = m.value; defined = is; kept = kept_now sh b.0 k m.value (stamps_now sh ts k) m.keeps } in
            let r = ih (done ++ k ∷ []) (so_far ++ k ∷ []) b.0 new b.2 onward can.1 (within_both so_far done k within)
            (stands_later ts made so_far sh b.0 k m.value (stamps_now sh ts k) stands is m.keeps stamps)
            (each_last (IsKnown b.0 ts) done k (known_still sh b.0 k m.value (stamps_now sh ts k) m.keeps ts done place.0 known) one) b.4 in
            record {
              are_made = inr ((λ u. m.outdated (current_from ts sh (made_now made ts so_far) stands k has needs (up_from so_far k new_so_far u))), (b.2, all, r.are_made));
              stands = subst (λ ns. StandsFor new ts (made_now made ts ns)) (append_assoc so_far (k ∷ []) b.2 ∙ ap (λ ns. so_far ++ ns) (sym all)) r.stands;
              known = r.known;
            }

        lacks : rule_value sh ts k ≡ None → ⊥
        lacks e = let d = facts.some k can.0 in not_some (rule_value sh ts k) d.0 (facts.rule sh k d.0 can.0 needs d.1) e

        go : Brings sh ts k b.1 b.0 → Brought ts made walk (k ∷ ks) so_far now new
        go (inl s) = elim s.0 [ inl e ↦ stays e s.1 s.2 | inr e ↦ absurd (lacks e) ]
        go (inr s) = makes s.0 s.1

  pub brought : (ks : List Key) → Goal ks
  brought [] = last
  brought (k ∷ ks) = next k ks (brought ks)
