-- Texts that are seen, and then kept.
use Rattle.std.proofs.Common.{◌≡◌, ℕ, Bool, true, false, inl, inr, List, [], ◌∷◌, ◌++◌, Option, Some, None, refl, sym, ap, ◌∙◌, subst, append_assoc, append-nil, true≢false}
use Rattle.std.specs.Prelude.{slice_get, bytes_eq, not, is_some, if◌then◌else◌}
use Rattle.f77_ast.specs.Symbols.{number_from}
use Rattle.session_texts.proofs.Removed.{there, none_removed}
use Rattle.session_texts.specs.pipsmake_rules.Neighbours.{has_name}
use Rattle.std.specs.Cmp.Lexicographic.{bytes_decides}
use Rattle.session_texts.specs.pipsmake_meaning.Texts.{ModuleText, AreModules, names_in, text_of}
use Rattle.session_texts.specs.pipsmake_meaning.Session.{Makings, made_without}
use Rattle.session_texts.specs.pipsmake_meaning.MemoCells.{MemoCell, MemoCells, Adds, KeepsIn, Forgets}
use Rattle.session_texts.specs.pipsmake_meaning.Values.{Value, Item, source, text}
use Rattle.session_texts.specs.pipsmake_meaning.Making.{AllStay}
use Rattle.laws_database.specs.Stands.{StandsFor}
use Rattle.laws_database.specs.Laws.{TextsMayChange, TextsMayGo, ResultsMayGo, ValuesMayBeSeen}
use Rattle.laws_database.proofs.Stamps.{adds_keep}
use Rattle.session_texts.specs.Changes.{put, replaced, without}
use Rattle.session_texts.specs.Laws.{or_text, TextOfPut, PutsKeep, TextOfReplaced, TextOfWithout, WithoutKeep}
use Rattle.session_texts.specs.Modules.{NamesDiffer}
use Rattle.result_store.specs.Seen.{KeepsSeen}
use Rattle.pipsmake_db.specs.declared.texts.Seen.{Seen}
use Rattle.pipsmake_db.specs.Texts.{StandsStill, RestsOnSame, SeesText, IsPlaced, ArePlaced, KeepsInTurn, KeepsTexts, TextsStay, ForgetsGone, StaysWithout, StandsWithout}
use Rattle.pipsmake_db.specs.State.{made_without_all, gone_of}
use Rattle.pipsmake_db.proofs.RestLaws.{rests_seen}
use Rattle.fx_lists.proofs.Texts.{differs as not_same, unequal_texts as is_false}

-- ---- memo cells that stay

pub same_memo_cells : (old new : MemoCells) → AllStay old new → new ≡ old
same_memo_cells old new h = λ i item x. h item x i

pub stands_same : (old new : MemoCells) → AllStay old new → StandsStill old new
stands_same old new h ts made s = subst (λ sh. StandsFor sh ts made) (sym (same_memo_cells old new h)) s

-- ---- texts that are seen

-- texts that were seen stay where they are
abbrev TextsGrow : MemoCells → MemoCells → Type 0
TextsGrow old new = (y : List ℕ) (i : ℕ) (w : Value) → slice_get (old text y).values i ≡ Some w → slice_get (new text y).values i ≡ Some w

texts_grow : (old new : MemoCells) (x : List ℕ) (v : Value) → Adds (old text x).values v (new text x).values → ((other : Item) (y : List ℕ) → (((other ≡ text) × (y ≡ x)) → ⊥) → new other y ≡ old other y) → TextsGrow old new
texts_grow old new x v adds others y i w e = go (bytes_eq y x) refl
  where
    go : (b : Bool) → bytes_eq y x ≡ b → slice_get (new text y).values i ≡ Some w
    go true t =
        let same : y ≡ x = (bytes_decides y x).0 t in
        subst (λ z. slice_get (old text z).values i ≡ Some w → slice_get (new text z).values i ≡ Some w) (sym same) (adds_keep (old text x).values (new text x).values v w i adds) e
    go false t = ap (λ (s : MemoCell). slice_get s.values i) (others text y (λ p. not_same y x t p.1)) ∙ e

placed_grow : (old new : MemoCells) → TextsGrow old new → (us : List ModuleText) (ns : List Seen) → ArePlaced old us ns → ArePlaced new us ns
placed_grow old new g [] [] h = tt
placed_grow old new g [] (n ∷ ns) h = absurd h
placed_grow old new g (u ∷ us) [] h = absurd h
placed_grow old new g (u ∷ us) (n ∷ ns) h = (record { name = h.0.name; at = g u.name n.stamp (source u.text) h.0.at }, placed_grow old new g us ns h.1)

placed_more : (sh : MemoCells) (us : List ModuleText) (ns : List Seen) (u : ModuleText) (n : Seen) → ArePlaced sh us ns → IsPlaced sh u n → ArePlaced sh (us ++ u ∷ []) (ns ++ n ∷ [])
placed_more sh [] [] u n h p = (p, tt)
placed_more sh [] (m ∷ ns) u n h p = absurd h
placed_more sh (v ∷ us) [] u n h p = absurd h
placed_more sh (v ∷ us) (m ∷ ns) u n h p = (h.0, placed_more sh us ns u n h.1 p)

-- the first of these texts were seen, and these are left
pub record Sees (old : MemoCells) (us : List ModuleText) (sh : MemoCells) (left : List ModuleText) (ns : List Seen) : Type 0 where
  pub stands : StandsStill old sh
  pub rests : RestsOnSame old sh
  pub done : List ModuleText
  pub parts : done ++ left ≡ us
  pub placed : ArePlaced sh done ns

pub sees_none : (sh : MemoCells) (us : List ModuleText) → Sees sh us sh us []
sees_none sh us = record { stands = λ ts made s. s; rests = λ ts d r. r; done = []; parts = refl; placed = tt }

pub still_stands : (law : ValuesMayBeSeen) (old sh new : MemoCells) (u : ModuleText) (n : Seen) → StandsStill old sh → SeesText sh u n new → StandsStill old new
still_stands law old sh new u n s t ts made h = law sh new ts made text u.name (source u.text) n.stamp (s ts made h) t.sees

pub still_rests : (old sh new : MemoCells) (u : ModuleText) (n : Seen) → RestsOnSame old sh → SeesText sh u n new → RestsOnSame old new
still_rests old sh new u n r t ts d h = rests_seen sh new u.name u.text n.stamp t.sees ts d (r ts d h)

pub sees_more : (law : ValuesMayBeSeen) (old : MemoCells) (us : List ModuleText) (sh new : MemoCells) (u : ModuleText) (left : List ModuleText) (ns ms : List Seen) (n : Seen) → Sees old us sh (u ∷ left) ns → SeesText sh u n new → ms ≡ ns ++ n ∷ [] → Sees old us new left ms
sees_more law old us sh new u left ns ms n s t e = record {
  stands = still_stands law old sh new u n s.stands t;
  rests = still_rests old sh new u n s.rests t;
  done = s.done ++ u ∷ [];
  parts = append_assoc s.done (u ∷ []) left ∙ s.parts;
  placed = subst (ArePlaced new (s.done ++ u ∷ [])) (sym e)
      (placed_more new s.done ns u n (placed_grow sh new (texts_grow sh new u.name (source u.text) t.sees.sees.values t.sees.others) s.done ns s.placed) (record { name = t.name; at = t.sees.sees.at }));
}

pub sees_all : (old : MemoCells) (us : List ModuleText) (sh : MemoCells) (ns : List Seen) → Sees old us sh [] ns → ArePlaced sh us ns
sees_all old us sh ns s = subst (λ vs. ArePlaced sh vs ns) (sym (append-nil s.done) ∙ s.parts) s.placed

-- ---- texts that are kept

-- keeping those that are left keeps all
abbrev pub KeepsRest : MemoCells → List Seen → MemoCells → List Seen → Type 0
KeepsRest old all sh left = (us : List ModuleText) → ArePlaced old us all → (vs : List ModuleText) × ArePlaced sh vs left × ((new : MemoCells) → KeepsInTurn sh vs new → KeepsInTurn old us new)

pub keeps_none : (sh : MemoCells) (all : List Seen) → KeepsRest sh all sh all
keeps_none sh all us h = (us, h, λ new k. k)

step : (sh new : MemoCells) (n : Seen) (left : List Seen) → KeepsSeen sh new text n.name n.stamp [] → (vs : List ModuleText) → ArePlaced sh vs (n ∷ left) → (ws : List ModuleText) × ArePlaced new ws left × ((last : MemoCells) → KeepsInTurn new ws last → KeepsInTurn sh vs last)
step sh new n left k [] h = absurd h
step sh new n left k (v ∷ vs) h =
    let seen : slice_get (sh text n.name).values n.stamp ≡ Some (source v.text) = subst (λ x. slice_get (sh text x).values n.stamp ≡ Some (source v.text)) (sym h.0.name) h.0.at in
    let keeps : KeepsIn sh new text n.name (source v.text) [] = k (source v.text) seen in
    let named : KeepsIn sh new text v.name (source v.text) [] = subst (λ x. KeepsIn sh new text x (source v.text) []) h.0.name keeps in
    (vs, placed_grow sh new (texts_grow sh new v.name (source v.text) named.keeps.values named.others) vs left h.1, λ last r. (new, named, r))

pub keeps_more : (old : MemoCells) (all : List Seen) (sh new : MemoCells) (n : Seen) (left : List Seen) → KeepsRest old all sh (n ∷ left) → KeepsSeen sh new text n.name n.stamp [] → KeepsRest old all new left
keeps_more old all sh new n left r k us h =
    let a = r us h in
    let b = step sh new n left k a.0 a.1 in
    (b.0, b.1, λ last q. a.2 last (b.2 last q))

pub keeps_all : (old : MemoCells) (all : List Seen) (sh : MemoCells) → KeepsRest old all sh [] → KeepsTexts old all sh
keeps_all old all sh r us h = let a = r us h in go a.0 a.1 a.2
  where
    go : (vs : List ModuleText) → ArePlaced sh vs [] → ((new : MemoCells) → KeepsInTurn sh vs new → KeepsInTurn old us new) → KeepsInTurn old us sh
    go [] p f = f sh (λ item x. refl)
    go (v ∷ vs) p f = absurd p

-- ---- what was made stands

module _ (change : TextsMayChange) (text_of_put : TextOfPut) (puts : PutsKeep) where
  pub replaced_stands : (us : List ModuleText) (sh new : MemoCells) (ts : List ModuleText) (made : Makings) → AreModules us → KeepsInTurn sh us new → StandsFor sh ts made → StandsFor new (replaced ts us) made
  replaced_stands [] sh new ts made ms k s = stands_same sh new k ts made s
  replaced_stands (u ∷ us) sh new ts made ms k s =
      replaced_stands us k.0 new (put u ts) made ms.1 k.2
      (change sh k.0 ts (put u ts) made u.name u.text s ((puts u ts).modules ms.0 s.modules)
      (text_of_put u ts u.name ∙ ap (λ b. if b then Some u.text else text_of ts u.name) ((bytes_decides u.name u.name).1 refl))
      (λ y d. text_of_put u ts y ∙ ap (λ b. if b then Some u.text else text_of ts y) (is_false u.name y (λ e. d (sym e))))
      k.1)

module _ (results_go : ResultsMayGo) (texts_go : TextsMayGo) (text_of_without : TextOfWithout) (keep : WithoutKeep) where
  pub dropped_stands : (sh new : MemoCells) (ts : List ModuleText) (made : Makings) (x : List ℕ) → Forgets sh new x → StandsFor sh ts made → StandsFor new (without x ts) (made_without made x)
  dropped_stands sh new ts made x f s =
      texts_go new ts (without x ts) (made_without made x) (results_go sh new ts made x s f) ((keep x ts).modules s.modules) (λ y t e. left y t (bytes_eq x y) (sym (text_of_without x ts y) ∙ e))
    where
      left : (y t : List ℕ) (b : Bool) → (if b then None else text_of ts y) ≡ Some t → text_of ts y ≡ Some t
      left y t true e = cc
      left y t false e = e

-- ---- names that go

-- the first of these names were forgotten, and these are left
pub record Forgot (old : MemoCells) (ts : List ModuleText) (all : List (List ℕ)) (sh : MemoCells) (left : List (List ℕ)) : Type 0 where
  pub texts : TextsStay old sh
  pub stands : (us : List ModuleText) (made : Makings) → StandsFor old us made → (mid : Makings) × StandsFor sh us mid × (made_without_all mid (gone_of ts left) ≡ made_without_all made (gone_of ts all))
  pub stays : gone_of ts all ≡ [] → (gone_of ts left ≡ []) × AllStay old sh

pub forgot_none : (sh : MemoCells) (ts : List ModuleText) (all : List (List ℕ)) → Forgot sh ts all sh all
forgot_none sh ts all = record { texts = λ y. refl; stands = λ us made s. (made, s, refl); stays = λ e. (e, λ item x. refl) }

gone_first : (ts : List ModuleText) (x : List ℕ) (left : List (List ℕ)) (b : Bool) → has_name (names_in ts) x ≡ b → gone_of ts (x ∷ left) ≡ (if not b then x ∷ gone_of ts left else gone_of ts left)
gone_first ts x left b e = ap (λ b. if not b then x ∷ gone_of ts left else gone_of ts left) e

forgot_step : (made : Makings) (ts : List ModuleText) (x : List ℕ) (left : List (List ℕ)) (b : Bool) → has_name (names_in ts) x ≡ b → made_without_all made (gone_of ts (x ∷ left)) ≡ made_without_all (if b then made else made_without made x) (gone_of ts left)
forgot_step made ts x left true e = ap (λ b. made_without_all made (if not b then x ∷ gone_of ts left else gone_of ts left)) e
forgot_step made ts x left false e = ap (λ b. made_without_all made (if not b then x ∷ gone_of ts left else gone_of ts left)) e

pub forgot_more : (law : ResultsMayGo) (old : MemoCells) (ts : List ModuleText) (all : List (List ℕ)) (sh new : MemoCells) (x : List ℕ) (left : List (List ℕ)) → Forgot old ts all sh (x ∷ left) → ForgetsGone sh ts x new → Forgot old ts all new left
forgot_more law old ts all sh new x left f (inl h) = record {
  texts = λ y. h.1 text y ∙ f.texts y;
  stands = λ us made s. (let m = f.stands us made s in (m.0, stands_same sh new h.1 us m.0 m.1, sym (forgot_step m.0 ts x left true h.0) ∙ m.2));
  stays = λ e. (let p = f.stays e in (sym (gone_first ts x left true h.0) ∙ p.0, λ item y. h.1 item y ∙ p.1 item y));
}
forgot_more law old ts all sh new x left f (inr h) = record {
  texts = λ y. text_stays y (bytes_eq y x) refl ∙ f.texts y;
  stands = λ us made s. (let m = f.stands us made s in (made_without m.0 x, law sh new us m.0 x m.1 h.1, sym (forgot_step m.0 ts x left false h.0) ∙ m.2));
  stays = λ e. absurd (let some : x ∷ gone_of ts left ≡ [] = sym (gone_first ts x left false h.0) ∙ (f.stays e).0 in cc);
}
  where
    text_stays : (y : List ℕ) (b : Bool) → bytes_eq y x ≡ b → new text y ≡ sh text y
    text_stays y true e = subst (λ z. new text z ≡ sh text z) (sym ((bytes_decides y x).0 e)) h.1.text
    text_stays y false e = h.1.others text y (not_same y x e)

pub forgot_all : (old : MemoCells) (ts : List ModuleText) (all : List (List ℕ)) (sh : MemoCells) → Forgot old ts all sh [] → StandsWithout old (gone_of ts all) sh
forgot_all old ts all sh f us made s = let m = f.stands us made s in subst (StandsFor sh us) m.2 m.1

pub forgot_stays : (old : MemoCells) (ts : List ModuleText) (all : List (List ℕ)) (sh : MemoCells) → Forgot old ts all sh [] → StaysWithout old (gone_of ts all) sh
forgot_stays old ts all sh f e = (f.stays e).1

pub placed_still : (old new : MemoCells) → TextsStay old new → (us : List ModuleText) (ns : List Seen) → ArePlaced old us ns → ArePlaced new us ns
placed_still old new t us ns h = placed_grow old new (λ y i w e. ap (λ (s : MemoCell). slice_get s.values i) (t y) ∙ e) us ns h

module _ (change : TextsMayChange) (text_of_put : TextOfPut) (puts : PutsKeep) (texts_go : TextsMayGo) (text_of_replaced : TextOfReplaced) where
  pub all_replaced_stands : (us : List ModuleText) (sh new : MemoCells) (ts : List ModuleText) (made : Makings) → AreModules us → NamesDiffer us → KeepsInTurn sh us new → StandsFor sh ts made → StandsFor new us made
  all_replaced_stands us sh new ts made ms differ k s =
      texts_go new (replaced ts us) us made (replaced_stands change text_of_put puts us sh new ts made ms k s) ms
      (λ y t e. text_of_replaced ts us y differ ∙ ap (λ o. or_text o (text_of ts y)) e)

-- ---- what a call says of a name

pub name_gone : (old new : MemoCells) (ts : List ModuleText) (x : List ℕ) → None ≡ number_from 0 (names_in ts) x → Forgets old new x → ForgetsGone old ts x new
name_gone old new ts x e f = inr (there 0 (names_in ts) x ∙ ap is_some (sym e), f)

pub name_stays : (sh : MemoCells) (ts : List ModuleText) (x : List ℕ) (n : ℕ) → Some n ≡ number_from 0 (names_in ts) x → ForgetsGone sh ts x sh
name_stays sh ts x n e = inl (there 0 (names_in ts) x ∙ ap is_some (sym e), λ item y. refl)

-- a name that no text has is taken away of none
pub none_gone : (x : List ℕ) (ts : List ModuleText) → has_name (names_in ts) x ≡ false → without x ts ≡ ts
none_gone x ts e = go (number_from 0 (names_in ts) x) refl
  where
    go : (o : Option ℕ) → number_from 0 (names_in ts) x ≡ o → without x ts ≡ ts
    go None f = none_removed 0 ts x f
    go (Some n) f = absurd (let z : true ≡ false = sym (there 0 (names_in ts) x ∙ ap is_some f) ∙ e in cc)
