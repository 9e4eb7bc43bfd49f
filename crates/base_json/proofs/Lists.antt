-- Lists that are made one element after another.
use Rattle.std.proofs.Common.{◌≡◌, ℕ, ◌+◌, ◌<◌, ◌≤◌, List, [], ◌∷◌, ◌++◌, length, map, drop, get_or, drop-cons, drop_of_length-le, add-one, append_assoc, append-nil, Option, Some, None, option_map, option_and_then, Vec, Global, refl, sym, ap, ◌∙◌}
use Rattle.std.proofs.lemmas.List.{map-append}
use Rattle.std.specs.Str.{encode_utf8_all}
use Rattle.std.specs.Char.{encode_utf8}
use Rattle.serde_json.specs.Data.{Data}
use Rattle.serde_json.specs.View.{view, items_of}
use Rattle.serde_json.specs.declared.value.Value.{Value, Array}
use Rattle.serde_json.proofs.Views.{view-Array}
use Rattle.base_json.specs.Written.{list_data}
use Rattle.base_json.specs.Shapes.{each_as}

pub drop_step : {A : Type 0} (ys : List A) (i : ℕ) (y : A) → i < length ys → drop i ys ≡ get_or ys i y ∷ drop (i + 1) ys
drop_step ys i y l = rw (add-one, drop-cons ys i y) refl

-- ---- arrays

pub array_made : (vs : Vec Value Global) (ds : List Data) → map view vs.items ≡ ds → view (Array vs) ≡ list_data ds
array_made vs ds e = view-Array vs ∙ ap list_data e

-- one value more, of one element more
pub one_more : {A B C : Type 0} (f : A → C) (g : B → C) (done : List A) (x : A) (ys : List B) (i : ℕ) (y : B) (all : List C) → i < length ys → y ≡ get_or ys i y → f x ≡ g y →
    map f done ++ map g (drop i ys) ≡ all → map f (done ++ x ∷ []) ++ map g (drop (i + 1) ys) ≡ all
one_more f g done x ys i y all l e h k =
    let rest = map g (drop (i + 1) ys) in
    ap (λ zs. zs ++ rest) (map-append f done (x ∷ []))
    ∙ (append_assoc (map f done) (f x ∷ []) rest
    ∙ (ap (λ z. map f done ++ z ∷ rest) (h ∙ ap g e)
    ∙ (ap (λ zs. map f done ++ map g zs) (sym (drop_step ys i y l)) ∙ k)))

-- all of them
pub all_made : {A B C : Type 0} (f : A → C) (g : B → C) (done : List A) (ys : List B) (i : ℕ) (all : List C) → length ys ≤ i →
    map f done ++ map g (drop i ys) ≡ all → map f done ≡ all
all_made f g done ys i all l k = sym (append-nil (map f done)) ∙ (ap (λ zs. map f done ++ map g zs) (sym (drop_of_length-le ys l)) ∙ k)

pub ruleset made = (array_made, append-nil)

-- ---- texts

pub one_byte_more : (done new bs : List ℕ) (i b : ℕ) (all : List ℕ) → i < length bs → b ≡ get_or bs i 0 → new ≡ done ++ encode_utf8 b →
    done ++ encode_utf8_all (drop i bs) ≡ all → new ++ encode_utf8_all (drop (i + 1) bs) ≡ all
one_byte_more done new bs i b all l e h k =
    let rest = encode_utf8_all (drop (i + 1) bs) in
    ap (λ zs. zs ++ rest) h
    ∙ (append_assoc done (encode_utf8 b) rest
    ∙ (ap (λ c. done ++ (encode_utf8 c ++ rest)) e
    ∙ (ap (λ zs. done ++ encode_utf8_all zs) (sym (drop_step bs i 0 l)) ∙ k)))

pub all_bytes : (done bs : List ℕ) (i : ℕ) (all : List ℕ) → length bs ≤ i → done ++ encode_utf8_all (drop i bs) ≡ all → done ≡ all
all_bytes done bs i all l k = sym (append-nil done) ∙ (ap (λ zs. done ++ encode_utf8_all zs) (sym (drop_of_length-le bs l)) ∙ k)

pub ruleset texts = (append-nil)

-- ---- reading

-- what was read so far, before what the rest gives
abbrev pub after : {T : Type 0} → List T → Option (List T) → Option (List T)
after xs o = option_map (λ ys. xs ++ ys) o

pub after_one : {T : Type 0} (xs : List T) (x : T) (o : Option (List T)) → after (xs ++ x ∷ []) o ≡ after xs (option_map (λ ys. x ∷ ys) o)
after_one xs x None = refl
after_one xs x (Some ys) = ap Some (append_assoc xs (x ∷ []) ys)

pub one_more_read : {T : Type 0} (f : Data → Option T) (vs : List Value) (i : ℕ) (v : Value) (xs : List T) (x : T) (all : Option (List T)) → i < length vs → v ≡ get_or vs i v → f (view v) ≡ Some x →
    after xs (each_as f (map view (drop i vs))) ≡ all → after (xs ++ x ∷ []) (each_as f (map view (drop (i + 1) vs))) ≡ all
one_more_read f vs i v xs x all l e h k =
    let rest = each_as f (map view (drop (i + 1) vs)) in
    after_one xs x rest
    ∙ (ap (λ o. after xs (option_and_then (λ y. option_map (λ ys. y ∷ ys) rest) o)) (sym h)
    ∙ (ap (λ w. after xs (option_and_then (λ y. option_map (λ ys. y ∷ ys) rest) (f (view w)))) e
    ∙ (ap (λ ws. after xs (each_as f (map view ws))) (sym (drop_step vs i v l)) ∙ k)))

pub none_read : {T : Type 0} (f : Data → Option T) (vs : List Value) (i : ℕ) (v : Value) (xs : List T) (all : Option (List T)) → i < length vs → v ≡ get_or vs i v → f (view v) ≡ None →
    after xs (each_as f (map view (drop i vs))) ≡ all → all ≡ None
none_read f vs i v xs all l e h k =
    let rest = each_as f (map view (drop (i + 1) vs)) in
    sym k
    ∙ (ap (λ ws. after xs (each_as f (map view ws))) (drop_step vs i v l)
    ∙ (ap (λ w. after xs (option_and_then (λ y. option_map (λ ys. y ∷ ys) rest) (f (view w)))) (sym e)
    ∙ ap (λ o. after xs (option_and_then (λ y. option_map (λ ys. y ∷ ys) rest) o)) h))

pub all_read : {T : Type 0} (f : Data → Option T) (vs : List Value) (i : ℕ) (xs : List T) (all : Option (List T)) → length vs ≤ i →
    after xs (each_as f (map view (drop i vs))) ≡ all → all ≡ Some xs
all_read f vs i xs all l k =
    sym k ∙ (ap (λ ws. after xs (each_as f (map view ws))) (drop_of_length-le vs l) ∙ ap Some (append-nil xs))

pub ruleset reads = (append-nil)
