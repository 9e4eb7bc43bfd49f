-- Entries, and the results of the current formats among them.
use Rattle.std.proofs.Common.{◌≡◌, ℕ, true, ◌&&◌, List, [], ◌∷◌, ◌++◌, map, reverse, append_assoc, append-nil, refl, sym, ap, ◌∙◌}
use Rattle.std.proofs.lemmas.List.{reverse-append, reverse-reverse}
use Rattle.session_texts.specs.pipsmake_rules.declared.kind.Kind.{Kind}
use Rattle.base_values.specs.Naming.{Each}
use Rattle.base_values.specs.Sizes.{kind_of}
use Rattle.base_text.specs.declared.base.StoredResult.{StoredResult}
use Rattle.base_text.specs.declared.entries.Entry.{Entry}
use Rattle.base_text.specs.declared.entries.Entry.TheVariants.{Current, Old}
use Rattle.base_text.specs.Order.{comes_before, in_order_by, result_name, result_kind, is_before, are_in_order}
use Rattle.base_text.specs.Entries.{entry_name, entry_kind, current}
use Rattle.base_text.proofs.OrderLaws.{rest_ordered, each_after, ordered_with}

-- ---- the results of the current formats are in order where all entries are

each_current : (P : List ℕ → Kind → Type 0) (es : List Entry) → Each (λ e. P (entry_name e) (entry_kind e)) es → Each (λ (r : StoredResult). P (result_name r) (result_kind r)) (current es)
each_current P [] h = tt
each_current P (Current r ∷ es) h = (h.0, each_current P es h.1)
each_current P (Old x k ∷ es) h = each_current P es h.1

pub current_ordered : (names : List (List ℕ)) (es : List Entry) → in_order_by entry_name entry_kind names es ≡ true → are_in_order names (current es) ≡ true
current_ordered names [] e = refl
current_ordered names (Current r ∷ es) e =
    ordered_with result_name result_kind names r (current es)
    (each_current (λ x k. comes_before names r.name (kind_of r.value) x k ≡ true) es (each_after entry_name entry_kind names (Current r) es e))
    (current_ordered names es (rest_ordered entry_name entry_kind names (Current r) es e))
current_ordered names (Old x k ∷ es) e = current_ordered names es (rest_ordered entry_name entry_kind names (Old x k) es e)

-- ---- entries of results that are all of the current formats

abbrev pub entries_for : List StoredResult → List Entry
entries_for rs = map (λ r. Current r) rs

pub current_all : (rs : List StoredResult) → current (entries_for rs) ≡ rs
current_all [] = refl
current_all (r ∷ rs) = ap (λ qs. r ∷ qs) (current_all rs)

pub all_ordered : (names : List (List ℕ)) (rs : List StoredResult) → in_order_by entry_name entry_kind names (entries_for rs) ≡ are_in_order names rs
all_ordered names [] = refl
all_ordered names (r ∷ []) = refl
all_ordered names (r ∷ q ∷ rs) = ap (λ b. is_before names r q && b) (all_ordered names (q ∷ rs))

-- ---- entries from the first on; the first is the last of those that are left

current_more : (e : Entry) (es : List Entry) → current (e ∷ es) ≡ current (e ∷ []) ++ current es
current_more (Current r) es = refl
current_more (Old x k) es = refl

pub current_begin : (entries left : List Entry) → left ≡ reverse entries → current (reverse left) ≡ current entries
current_begin entries left e = ap current (ap reverse e ∙ reverse-reverse entries)

pub current_step : (left less : List Entry) (out new goal : List StoredResult) (e : Entry) → left ≡ less ++ e ∷ [] → new ≡ out ++ current (e ∷ []) → out ++ current (reverse left) ≡ goal
    → new ++ current (reverse less) ≡ goal
current_step left less out new goal e l n h =
    let turned : reverse left ≡ e ∷ reverse less = ap reverse l ∙ reverse-append less (e ∷ []) in
    let all : out ++ current (reverse left) ≡ out ++ (current (e ∷ []) ++ current (reverse less)) = ap (λ es. out ++ current es) turned ∙ ap (λ rs. out ++ rs) (current_more e (reverse less)) in
    ap (λ rs. rs ++ current (reverse less)) n ∙ (append_assoc out (current (e ∷ [])) (current (reverse less)) ∙ (sym all ∙ h))

pub current_end : (left : List Entry) (out goal : List StoredResult) → left ≡ [] → out ++ current (reverse left) ≡ goal → out ≡ goal
current_end left out goal e h = sym (append-nil out) ∙ (ap (λ es. out ++ current (reverse es)) (sym e) ∙ h)

pub ruleset currents = (current_begin, current_step, current_end)
