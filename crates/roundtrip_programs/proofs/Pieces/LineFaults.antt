-- Lines without a fault, in two parts.
use Rattle.std.proofs.Common.{◌≡◌, ℕ, ◌+◌, List, [], ◌∷◌, ◌++◌, refl, ap, ◌∙◌, Bool, true, false, not, if◌then◌else◌}
use Rattle.std.specs.Prelude.{Option, Some, None, take, ◌||◌}
use Rattle.std.specs.List.{list_all, list_any}
use Rattle.fx_lists.specs.declared.code.Code.{Code}
use Rattle.fx_lists.specs.declared.code.Code.TheVariants.{NonAscii, Tab, BadLabelField}
use Rattle.fixed_form.specs.Characters.{is_allowed, is_tab}
use Rattle.fixed_form.specs.declared.fault.Begun.{Begun}
use Rattle.fixed_form.specs.declared.line.Line.{Line}
use Rattle.fixed_form.specs.Body.{has_tab, quoted_after}
use Rattle.fixed_form.specs.Cards.{is_comment, is_dropped, card, columns, is_initial}
use Rattle.fixed_form.specs.Faults.{fault_of, has_bad_field, starts_quoted, is_quoted, continuation_fault, continuations_of, begun_behind, or_later, first_fault}
use Rattle.fixed_form.specs.Reading.{rest_from}
use Rattle.roundtrip_programs.proofs.Pieces.Cutting.{line_by, given}
use Rattle.fx_lists.proofs.Booleans.{bool_cases}

pub none-at : (b : Bool) (o : Option Code) (n : ℕ) (x y : Option (ℕ × Code)) → (if b then x else or_later n o y) ≡ None → (b ≡ true → x ≡ None) × (b ≡ false → o ≡ None) × (b ≡ false → y ≡ None)
none-at true o n x y h = (λ e. h, λ e. cc, λ e. cc)
none-at false None n x y h = (λ e. cc, λ e. refl, λ e. h)
none-at false (Some f) n x y h = cc

pub all-none : (b : Bool) (o : Option Code) (n : ℕ) (x y : Option (ℕ × Code)) → (b ≡ true → x ≡ None) → (b ≡ false → o ≡ None) → (b ≡ false → y ≡ None) → (if b then x else or_later n o y) ≡ None
all-none true o n x y f g h = f refl
all-none false o n x y f g h = ap (λ p. or_later n p y) (g refl) ∙ h refl

-- ---- at other lines

pub faultless-moved : (ls : List (List ℕ)) (begun : Option Begun) (n m : ℕ) → first_fault begun n ls ≡ None → first_fault begun m ls ≡ None
unfolding first_fault
faultless-moved [] begun n m h = refl
faultless-moved (l ∷ ls) begun n m h =
    let p = none-at (is_comment l) (fault_of begun (card l)) n _ _ h in
    all-none (is_comment l) (fault_of begun (card l)) m _ _
    (λ e. faultless-moved ls begun (n + 1) (m + 1) (p.0 e)) p.1 (λ e. faultless-moved ls (Some (begun_behind begun (card l))) (n + 1) (m + 1) (p.2 e))

-- ---- the first part, and the second one behind something

pub faultless-front : (ls more : List (List ℕ)) (begun : Option Begun) (n : ℕ) → first_fault begun n (ls ++ more) ≡ None → first_fault begun n ls ≡ None
unfolding first_fault
faultless-front [] more begun n h = refl
faultless-front (l ∷ ls) more begun n h =
    let p = none-at (is_comment l) (fault_of begun (card l)) n _ _ h in
    all-none (is_comment l) (fault_of begun (card l)) n _ _
    (λ e. faultless-front ls more begun (n + 1) (p.0 e)) p.1 (λ e. faultless-front ls more (Some (begun_behind begun (card l))) (n + 1) (p.2 e))

abbrev Behind : List (List ℕ) → Type 0
Behind ls = (begun : Option Begun) × (n : ℕ) × (first_fault begun n ls ≡ None)

pub faultless-back : (ls more : List (List ℕ)) (begun : Option Begun) (n : ℕ) → first_fault begun n (ls ++ more) ≡ None → Behind more
unfolding first_fault
faultless-back [] more begun n h = (begun, n, h)
faultless-back (l ∷ ls) more begun n h =
    let p = none-at (is_comment l) (fault_of begun (card l)) n _ _ h in
    bool_cases (is_comment l) (Behind more)
    (λ e. faultless-back ls more begun (n + 1) (p.0 e)) (λ e. faultless-back ls more (Some (begun_behind begun (card l))) (n + 1) (p.2 e))

-- ---- an initial line has nothing to do with what was begun before it

quoted-same : (i : Bool) (a b : Bool) → i ≡ true → (if i then false else a) ≡ (if i then false else b)
quoted-same true a b e = refl
quoted-same false a b e = cc

choice-same : {A : Type 0} (i : Bool) (x y z : A) → i ≡ true → (if i then x else y) ≡ (if i then x else z)
choice-same true x y z e = refl
choice-same false x y z e = cc

fault-same : (a b : Option Begun) (c : List ℕ) → is_initial c ≡ true → fault_of a c ≡ fault_of b c
unfolding fault_of
fault-same a b c e =
    ap (λ q. if not (list_all is_allowed c) then Some NonAscii
    else if list_any is_tab (take 6 c) || has_tab q (columns c) then Some Tab
    else if has_bad_field c then Some BadLabelField
    else if is_initial c then None
    else continuation_fault a) (quoted-same (is_initial c) (is_quoted a) (is_quoted b) e)
    ∙ ap (λ x. if not (list_all is_allowed c) then Some NonAscii
    else if list_any is_tab (take 6 c) || has_tab (starts_quoted b c) (columns c) then Some Tab
    else if has_bad_field c then Some BadLabelField
    else x) (choice-same (is_initial c) None (continuation_fault a) (continuation_fault b) e)

begun-same : (a b : Option Begun) (c : List ℕ) → is_initial c ≡ true → begun_behind a c ≡ begun_behind b c
begun-same a b c e =
    ap (λ q. record { quoted = quoted_after q (columns c); continuations = if is_initial c then 0 else continuations_of a + 1 }) (quoted-same (is_initial c) (is_quoted a) (is_quoted b) e)
    ∙ ap (λ k. record { quoted = quoted_after (starts_quoted b c) (columns c); continuations = k }) (choice-same (is_initial c) 0 (continuations_of a + 1) (continuations_of b + 1) e)

-- the first line that is no comment is initial
record StartsAnew (b i : Bool) (last : Option ℕ) : Type 0 where
  pub comment : b ≡ true → last ≡ None
  pub initial : b ≡ false → i ≡ true

anew : (b d i : Bool) (n : ℕ) (l c more : List ℕ) (last : Option ℕ) (inside : List (List ℕ)) (ss : List Line) (cs : List (List ℕ))
    → (line_by b d i n l c (given more last inside ss cs)).last ≡ None → StartsAnew b i last
anew true true i n l c more last inside ss cs e = record { comment = λ x. e; initial = λ x. cc }
anew true false i n l c more (Some k) inside ss cs e = cc
anew true false i n l c more None inside ss cs e = record { comment = λ x. refl; initial = λ x. cc }
anew false d true n l c more last inside ss cs e = record { comment = λ x. cc; initial = λ x. refl }
anew false d false n l c more last inside ss cs e = cc

pub faultless-anew : (ls : List (List ℕ)) (k : ℕ) (a b : Option Begun) (n m : ℕ) → (rest_from k ls).last ≡ None → first_fault a n ls ≡ None → first_fault b m ls ≡ None
unfolding first_fault rest_from
faultless-anew [] k a b n m f h = refl
faultless-anew (l ∷ ls) k a b n m f h =
    let r = rest_from (k + 1) ls in
    let s = anew (is_comment l) (is_dropped l) (is_initial (card l)) k l (card l) r.more r.last r.inside r.statements r.closing f in
    let p = none-at (is_comment l) (fault_of a (card l)) n _ _ h in
    all-none (is_comment l) (fault_of b (card l)) m _ _
    (λ e. faultless-anew ls (k + 1) a b (n + 1) (m + 1) (s.comment e) (p.0 e))
    (λ e. fault-same b a (card l) (s.initial e) ∙ p.1 e)
    (λ e. ap (λ x. first_fault (Some x) (m + 1) ls) (begun-same b a (card l) (s.initial e)) ∙ faultless-moved ls (Some (begun_behind a (card l))) (n + 1) (m + 1) (p.2 e))
