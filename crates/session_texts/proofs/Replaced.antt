-- Texts that are put one after another.
use Rattle.std.proofs.Common.{◌≡◌, ℕ, Bool, true, false, ◌||◌, List, [], ◌∷◌, ◌++◌, map, Option, Some, None, refl, sym, ap, ◌∙◌, subst, append_assoc, append-nil}
use Rattle.std.specs.Prelude.{bytes_eq, if◌then◌else◌}
use Rattle.std.specs.List.{AllByRecursion}
use Rattle.std.proofs.lemmas.Map.Keys.{IsDistinct-head, IsDistinct-tail}
use Rattle.pipsmake_rules.specs.Neighbours.{has_name}
use Rattle.pipsmake_meaning.specs.Texts.{ModuleText, IsModule, AreModules, names_in, text_of}
use Rattle.session_texts.specs.Modules.{NamesDiffer}
use Rattle.session_texts.specs.Changes.{put, replaced}
use Rattle.session_texts.specs.Laws.{or_text, ReplacedKeeps}
use Rattle.session_texts.proofs.Puts.{text_of_put, put_keeps}
use Rattle.fx_lists.proofs.Booleans.{neither}
use Rattle.fx_lists.proofs.Texts.{turned as either_way, same_name_2 as same_name}

-- a name that none of these has
abbrev IsNone : List ℕ → List ModuleText → Type 0
IsNone x us = AllByRecursion (λ y. bytes_eq x y ≡ false) (names_in us)

no_text : (x z : List ℕ) (us : List ModuleText) → IsNone x us → x ≡ z → text_of us z ≡ None
no_text x z [] h e = refl
no_text x z (u ∷ us) h e =
    let f : bytes_eq u.name z ≡ false = ap (λ w. bytes_eq u.name w) (sym e) ∙ either_way u.name x ∙ h.0 in
    ap (λ b. if b then Some u.text else text_of us z) f ∙ no_text x z us h.1 e

-- the new text of a name stays where no later one has the name
through : (b : Bool) (new : List ℕ) (later old : Option (List ℕ)) → (b ≡ true → later ≡ None) → or_text later (if b then Some new else old) ≡ or_text (if b then Some new else later) old
through true new later old h = ap (λ l. or_text l (Some new)) (h refl)
through false new later old h = refl

pub text_of_replaced : (ts us : List ModuleText) (x : List ℕ) → NamesDiffer us → text_of (replaced ts us) x ≡ or_text (text_of us x) (text_of ts x)
text_of_replaced ts [] x d = refl
text_of_replaced ts (u ∷ us) x d =
    text_of_replaced (put u ts) us x (IsDistinct-tail bytes_eq u.name (names_in us) d)
    ∙ ap (λ o. or_text (text_of us x) o) (text_of_put u ts x)
    ∙ through (bytes_eq u.name x) u.text (text_of us x) (text_of ts x)
    (λ e. no_text u.name x us (IsDistinct-head bytes_eq u.name (names_in us) d) (same_name u.name x e))

-- ---- what they keep

modules_replaced : (ts us : List ModuleText) → AreModules us → AreModules ts → AreModules (replaced ts us)
modules_replaced ts [] ns ms = ms
modules_replaced ts (u ∷ us) ns ms = modules_replaced (put u ts) us ns.1 ((put_keeps u ts).modules ns.0 ms)

distinct_replaced : (ts us : List ModuleText) → NamesDiffer ts → NamesDiffer (replaced ts us)
distinct_replaced ts [] d = d
distinct_replaced ts (u ∷ us) d = distinct_replaced (put u ts) us ((put_keeps u ts).distinct d)

pub replaced_keeps : (ts us : List ModuleText) → ReplacedKeeps ts us
replaced_keeps ts us = record { modules = modules_replaced ts us; distinct = distinct_replaced ts us }

-- ---- where no text has their names

put_last : (u : ModuleText) (ts : List ModuleText) → has_name (names_in ts) u.name ≡ false → put u ts ≡ ts ++ u ∷ []
put_last u [] e = refl
put_last u (t ∷ ts) e = go (bytes_eq t.name u.name) e (put_last u ts)
  where
    go : (b : Bool) → (b || has_name (names_in ts) u.name) ≡ false → (has_name (names_in ts) u.name ≡ false → put u ts ≡ ts ++ u ∷ []) → (if b then u ∷ ts else t ∷ put u ts) ≡ t ∷ (ts ++ u ∷ [])
    go true f ih = cc
    go false f ih = ap (λ r. t ∷ r) (ih f)

in_middle : (x : List ℕ) (ts : List ModuleText) (u : ModuleText) (us : List ModuleText) → IsNone x (ts ++ u ∷ us) → bytes_eq x u.name ≡ false
in_middle x [] u us h = h.0
in_middle x (t ∷ ts) u us h = in_middle x ts u us h.1

new_name : (ts : List ModuleText) (u : ModuleText) (us : List ModuleText) → NamesDiffer (ts ++ u ∷ us) → has_name (names_in ts) u.name ≡ false
new_name [] u us d = refl
new_name (t ∷ ts) u us d =
    neither (bytes_eq t.name u.name) (has_name (names_in ts) u.name)
    (in_middle t.name ts u us (IsDistinct-head bytes_eq t.name (names_in (ts ++ u ∷ us)) d))
    (new_name ts u us (IsDistinct-tail bytes_eq t.name (names_in (ts ++ u ∷ us)) d))

replaced_apart : (ts us : List ModuleText) → NamesDiffer (ts ++ us) → replaced ts us ≡ ts ++ us
replaced_apart ts [] d = sym (append-nil ts)
replaced_apart ts (u ∷ us) d =
    let same : (ts ++ u ∷ []) ++ us ≡ ts ++ u ∷ us = append_assoc ts (u ∷ []) us in
    ap (λ r. replaced r us) (put_last u ts (new_name ts u us d))
    ∙ replaced_apart (ts ++ u ∷ []) us (subst (λ (r : List ModuleText). NamesDiffer r) (sym same) d)
    ∙ same

pub replaced_none : (us : List ModuleText) → NamesDiffer us → replaced [] us ≡ us
replaced_none us d = replaced_apart [] us d
