-- The clauses of a directive are read as the names of its private variables, and as its operators and reduction variables.
use Rattle.std.proofs.Common.{inl, inr, ◌⊎◌, ◌<◌, ◌≡◌, ℕ, zero, suc, Bool, true, false, List, [], ◌∷◌, ◌++◌, replicate, map, refl, sym, ap, ◌∙◌, arith, append_assoc, append-nil, Option, Some, None, if◌then◌else◌}
use Rattle.std.specs.Prelude.{nat_eq, nat_le, codes, option_map, ◌&&◌, ◌||◌}
use Rattle.std.specs.List.{list_all}
use Rattle.std.specs.Char.{is_ascii_digit, is_ascii_uppercase}
use Rattle.std.proofs.lemmas.Bool.{and_from, and_parts, and_left, or_cases, leb-true, lt-leb, eqb-true}
use Rattle.fixed_form.specs.Body.{stripped}
use Rattle.system_text.specs.SystemText.{each_after, joined, name_at}
use Rattle.result_lines.specs.MarkText.{private_clause}
use Rattle.result_lines.specs.ReductionText.{op_word, reduction_clause, reduction_clauses, reduction_text}
use Rattle.result_lines.specs.declared.reduction.ReduceOp.{ReduceOp}
use Rattle.result_lines.specs.declared.reduction.ReduceOp.TheVariants.{Sum, Max, Min, And, Or}
use Rattle.result_lines.specs.declared.reduction.Part.{Part}
use Rattle.system_text.specs.Reading.{Bytes, ◌>>=◌, comma, pieces}
use Rattle.system_text.specs.Printed.{in_name, is_name, AreNames, AreNumbers}
use Rattle.system_text.proofs.Texts.{IsFree, AreFree, free-append, free-each_after, cut-at, pieces-each}
use Rattle.system_text.proofs.Names.{IsMade, name_made, made_free, other_character, name_of_number}
use Rattle.laws_lines.specs.Marks.Directives.{Clause, bracket, read_names, read_op, read_reduction, read_reductions, read_clauses, read_directive}
use Rattle.laws_lines.specs.Marks.Lines.{clause_of, clauses_of, AreNumberedParts}

-- ---- read as columns are, a text becomes another

abbrev pub Becomes : Bytes → Bytes → Type 0
Becomes x z = (y : Bytes) → stripped false (x ++ y) ≡ z ++ stripped false y

becomes_append : (x z a b : Bytes) → Becomes x a → Becomes z b → Becomes (x ++ z) (a ++ b)
becomes_append x z a b h k y = ap (stripped false) (append_assoc x z y) ∙ h (z ++ y) ∙ ap (λ (w : Bytes). a ++ w) (k y) ∙ sym (append_assoc a b (stripped false y))

-- ---- names have no blanks, no apostrophes and no small letters

abbrev AreMade : List Bytes → Type 0
AreMade [] = Unit {0}
AreMade (x ∷ xs) = IsMade x × AreMade xs

below_letters : (c : ℕ) → (is_ascii_digit c ≡ true) ⊎ (nat_eq c 95 ≡ true) → c < 97
below_letters c (inl h) = let l = leb-true c 57 (and_parts (nat_le 48 c) (nat_le c 57) h).1 in omega (arith, l)
below_letters c (inr h) = let e = eqb-true c 95 h in omega (arith, e)

below : (c : ℕ) → (is_ascii_uppercase c ≡ true) ⊎ ((is_ascii_digit c || nat_eq c 95) ≡ true) → c < 97
below c (inl h) = let l = leb-true c 90 (and_parts (nat_le 65 c) (nat_le c 90) h).1 in omega (arith, l)
below c (inr h) = below_letters c (or_cases (is_ascii_digit c) (nat_eq c 95) h)

small : (c : ℕ) → in_name c ≡ true → (nat_le 97 c && nat_le c 122) ≡ false
small c h = and_left (nat_le 97 c) (nat_le c 122) (lt-leb 97 c (below c (or_cases (is_ascii_uppercase c) (is_ascii_digit c || nat_eq c 95) h)))

made_stays : (x : Bytes) → IsMade x → Becomes x x
made_stays [] h y = refl
made_stays (c ∷ cs) h y =
    let a : nat_eq c 32 ≡ false = other_character c 32 h.0 refl in
    let b : nat_eq c 39 ≡ false = other_character c 39 h.0 refl in
    let s : (nat_le 97 c && nat_le c 122) ≡ false = small c h.0 in
    rw (a, b, s, made_stays cs h.1 y)

names_stay : (xs : List Bytes) → AreMade xs → Becomes (each_after (codes ",") xs) (each_after (codes ",") xs)
names_stay [] h = λ y. refl
names_stay (x ∷ xs) h =
    becomes_append (codes ",") (x ++ each_after (codes ",") xs) (codes ",") (x ++ each_after (codes ",") xs) (λ y. refl)
    (becomes_append x (each_after (codes ",") xs) x (each_after (codes ",") xs) (made_stays x h.0) (names_stay xs h.1))

-- ---- names of numbers

named : (names : List Bytes) (ns : List ℕ) → AreNames names → AreNumbers names ns → list_all is_name (map (name_at names) ns) ≡ true
named names [] h k = refl
named names (n ∷ ns) h k = and_from (is_name (name_at names n)) (list_all is_name (map (name_at names) ns)) (name_of_number names n h k.0) (named names ns h k.1)

all_names_made : (xs : List Bytes) → list_all is_name xs ≡ true → AreMade xs
all_names_made [] h = tt
all_names_made (x ∷ xs) h = let p = and_parts (is_name x) (list_all is_name xs) h in (name_made x p.0, all_names_made xs p.1)

all_free : (m : ℕ) (xs : List Bytes) → in_name m ≡ false → AreMade xs → AreFree m xs
all_free m [] e h = tt
all_free m (x ∷ xs) e h = (made_free m x e h.0, all_free m xs e h.1)

-- names between commas
list_back : (x : Bytes) (xs : List Bytes) → list_all is_name (x ∷ xs) ≡ true → read_names (joined (codes ",") (x ∷ xs)) ≡ Some (x ∷ xs)
list_back x xs h =
    let m = all_names_made (x ∷ xs) h in
    let e : pieces comma (joined (codes ",") (x ∷ xs)) ≡ x ∷ xs = pieces-each 44 x xs (made_free 44 x refl m.0) (all_free 44 xs refl m.1) in
    ap (λ (zs : List Bytes). if list_all is_name zs then Some zs else None) e ∙ ap (λ (b : Bool). if b then Some (x ∷ xs) else None) h

-- ---- words of operators

word_stays : (op : ReduceOp) → Becomes (op_word op) (op_word op)
word_stays Sum = λ y. refl
word_stays Max = λ y. refl
word_stays Min = λ y. refl
word_stays And = λ y. refl
word_stays Or = λ y. refl

-- neither ) nor : is in them
word_closed : (op : ReduceOp) → IsFree 41 (op_word op)
word_closed Sum = (refl, tt)
word_closed Max = (refl, (refl, (refl, tt)))
word_closed Min = (refl, (refl, (refl, tt)))
word_closed And = (refl, (refl, (refl, (refl, (refl, tt)))))
word_closed Or = (refl, (refl, (refl, (refl, tt))))

word_free : (op : ReduceOp) → IsFree 58 (op_word op)
word_free Sum = (refl, tt)
word_free Max = (refl, (refl, (refl, tt)))
word_free Min = (refl, (refl, (refl, tt)))
word_free And = (refl, (refl, (refl, (refl, (refl, tt)))))
word_free Or = (refl, (refl, (refl, (refl, tt))))

word_back : (op : ReduceOp) → read_op (op_word op) ≡ Some op
word_back Sum = refl
word_back Max = refl
word_back Min = refl
word_back And = refl
word_back Or = refl

-- ---- clauses one after another

-- texts, each with a closing parenthesis behind it
abbrev closed : List Bytes → Bytes
closed [] = []
closed (x ∷ xs) = x ++ (41 ∷ closed xs)

-- and nothing behind the last
abbrev ended : List Bytes → List Bytes
ended xs = xs ++ [] ∷ []

closed_each : (xs : List Bytes) → 41 ∷ closed xs ≡ each_after (41 ∷ []) (ended xs)
closed_each [] = refl
closed_each (x ∷ xs) = ap (λ (z : Bytes). 41 ∷ (x ++ z)) (closed_each xs)

ended_free : (xs : List Bytes) → AreFree 41 xs → AreFree 41 (ended xs)
ended_free [] h = (tt, tt)
ended_free (x ∷ xs) h = (h.0, ended_free xs h.1)

pieces_closed : (xs : List Bytes) → AreFree 41 xs → pieces bracket (closed xs) ≡ ended xs
pieces_closed [] h = refl
pieces_closed (x ∷ xs) h = ap (λ (z : Bytes). pieces bracket (x ++ z)) (closed_each xs) ∙ pieces-each 41 x (ended xs) h.0 (ended_free xs h.1)

-- ---- REDUCTION clauses

-- without blanks, up to the closing parenthesis
abbrev piece_of : List Bytes → Part → Bytes
piece_of names p = codes "REDUCTION(" ++ (op_word p.op ++ (codes ":" ++ name_at names p.cell))

clause_becomes : (names : List Bytes) (p : Part) → is_name (name_at names p.cell) ≡ true → Becomes (reduction_clause names p) (piece_of names p ++ codes ")")
clause_becomes names p h y =
    let name : Bytes = name_at names p.cell in
    let inner : Bytes = codes ":" ++ (name ++ codes ")") in
    let word : Bytes = op_word p.op in
    let stays : Becomes (word ++ inner) (word ++ inner) =
    becomes_append word inner word inner (word_stays p.op)
    (becomes_append (codes ":") (name ++ codes ")") (codes ":") (name ++ codes ")") (λ z. refl)
    (becomes_append name (codes ")") name (codes ")") (made_stays name (name_made name h)) (λ z. refl))) in
    ap (λ (z : Bytes). codes "REDUCTION(" ++ z) (stays y ∙ ap (λ (z : Bytes). z ++ stripped false y) (sym (append_assoc word (codes ":" ++ name) (codes ")"))))

piece_free : (names : List Bytes) (p : Part) → is_name (name_at names p.cell) ≡ true → IsFree 41 (piece_of names p)
piece_free names p h =
    free-append 41 (codes "REDUCTION(") (op_word p.op ++ (codes ":" ++ name_at names p.cell)) (refl, (refl, (refl, (refl, (refl, (refl, (refl, (refl, (refl, (refl, tt))))))))))
    (free-append 41 (op_word p.op) (codes ":" ++ name_at names p.cell) (word_closed p.op) (refl, made_free 41 (name_at names p.cell) refl (name_made (name_at names p.cell) h)))

piece_back : (names : List Bytes) (p : Part) → is_name (name_at names p.cell) ≡ true → read_reduction (piece_of names p) ≡ Some (clause_of names p)
piece_back names p h =
    let name : Bytes = name_at names p.cell in
    ap (λ (o : Option (Bytes × Bytes)). o >>= (λ (q : Bytes × Bytes). read_op q.0 >>= (λ (op : ReduceOp). if is_name q.1 then Some (record { op = op; name = q.1 }) else None))) (cut-at 58 (op_word p.op) name (word_free p.op))
    ∙ ap (λ (o : Option ReduceOp). o >>= (λ (op : ReduceOp). if is_name name then Some (record { op = op; name = name }) else None)) (word_back p.op)
    ∙ ap (λ (b : Bool). if b then Some (clause_of names p) else None) h

one_more : (x : Bytes) (xs : List Bytes) → read_reductions (x ∷ ended xs) ≡ read_reduction x >>= (λ (first : Clause). read_reductions (ended xs) >>= (λ (others : List Clause). Some (first ∷ others)))
one_more x [] = refl
one_more x (y ∷ ys) = refl

module _ (names : List Bytes) (are : AreNames names) where
  abbrev pieces_of : List Part → List Bytes
  pieces_of ps = map (piece_of names) ps

  clauses_become : (ps : List Part) → AreNumberedParts names ps → Becomes (reduction_clauses names ps) (closed (pieces_of ps))
  clauses_become [] h y = refl
  clauses_become (p ∷ ps) h y =
      let own = piece_of names p in
      let more = closed (pieces_of ps) in
      becomes_append (reduction_clause names p) (reduction_clauses names ps) (own ++ codes ")") more (clause_becomes names p (name_of_number names p.cell are h.0)) (clauses_become ps h.1) y
      ∙ ap (λ (z : Bytes). z ++ stripped false y) (append_assoc own (codes ")") more)

  pieces_free : (ps : List Part) → AreNumberedParts names ps → AreFree 41 (pieces_of ps)
  pieces_free [] h = tt
  pieces_free (p ∷ ps) h = (piece_free names p (name_of_number names p.cell are h.0), pieces_free ps h.1)

  reductions_back : (ps : List Part) → AreNumberedParts names ps → read_reductions (ended (pieces_of ps)) ≡ Some (map (clause_of names) ps)
  reductions_back [] h = refl
  reductions_back (p ∷ ps) h =
      one_more (piece_of names p) (pieces_of ps)
      ∙ ap (λ (o : Option Clause). o >>= (λ (first : Clause). read_reductions (ended (pieces_of ps)) >>= (λ (others : List Clause). Some (first ∷ others)))) (piece_back names p (name_of_number names p.cell are h.0))
      ∙ ap (λ (o : Option (List Clause)). o >>= (λ (others : List Clause). Some (clause_of names p ∷ others))) (reductions_back ps h.1)

  -- ---- behind PRIVATE

  abbrev front_of : List ℕ → List Bytes
  front_of [] = []
  front_of (n ∷ ns) = (codes "PRIVATE(" ++ joined (codes ",") (map (name_at names) (n ∷ ns))) ∷ []

  front_becomes : (ns : List ℕ) → AreNumbers names ns → Becomes (private_clause names ns) (closed (front_of ns))
  front_becomes [] h y = refl
  front_becomes (n ∷ ns) h y =
      let xs = map (name_at names) ns in
      let x = name_at names n in
      let made = all_names_made (x ∷ xs) (named names (n ∷ ns) are h) in
      let own : Bytes = joined (codes ",") (x ∷ xs) in
      let stays : Becomes own own = becomes_append x (each_after (codes ",") xs) x (each_after (codes ",") xs) (made_stays x made.0) (names_stay xs made.1) in
      ap (λ (z : Bytes). codes "PRIVATE(" ++ z) (becomes_append own (codes ")") own (codes ")") stays (λ z. refl) y)

  front_free : (ns : List ℕ) → AreNumbers names ns → AreFree 41 (front_of ns)
  front_free [] h = tt
  front_free (n ∷ ns) h =
      let xs = map (name_at names) ns in
      let x = name_at names n in
      let made = all_names_made (x ∷ xs) (named names (n ∷ ns) are h) in (
        free-append 41 (codes "PRIVATE(") (joined (codes ",") (x ∷ xs)) (refl, (refl, (refl, (refl, (refl, (refl, (refl, (refl, tt))))))))
            (free-append 41 x (each_after (codes ",") xs) (made_free 41 x refl made.0) (free-each_after 41 (codes ",") xs (refl, tt) (all_free 41 xs refl made.1))),
        tt,
      )

  -- PARALLEL DO and its clauses, read as columns are, and the blanks behind it
  abbrev whole : List ℕ → List Part → List Bytes
  whole ns ps = front_of ns ++ pieces_of ps

  whole_closed : (ns : List ℕ) (ps : List Part) → closed (front_of ns) ++ closed (pieces_of ps) ≡ closed (whole ns ps)
  whole_closed [] ps = refl
  whole_closed (n ∷ ns) ps = append_assoc (codes "PRIVATE(" ++ joined (codes ",") (map (name_at names) (n ∷ ns))) (41 ∷ []) (closed (pieces_of ps))

  whole_free : (ns : List ℕ) (ps : List Part) → AreNumbers names ns → AreNumberedParts names ps → AreFree 41 (whole ns ps)
  whole_free [] ps h k = pieces_free ps k
  whole_free (n ∷ ns) ps h k = ((front_free (n ∷ ns) h).0, pieces_free ps k)

  whole_back : (ns : List ℕ) (ps : List Part) → AreNumbers names ns → AreNumberedParts names ps → read_clauses (ended (whole ns ps)) ≡ Some (clauses_of names ns ps)
  whole_back [] [] h k = refl
  whole_back [] (p ∷ ps) h k = ap (option_map (λ (rs : List Clause). record { private = []; reductions = rs })) (reductions_back (p ∷ ps) k)
  whole_back (n ∷ ns) ps h k =
      let all = map (name_at names) (n ∷ ns) in
      ap (λ (o : Option (List Bytes)). o >>= (λ (xs : List Bytes). read_reductions (ended (pieces_of ps)) >>= (λ (rs : List Clause). Some (record { private = xs; reductions = rs }))))
      (list_back (name_at names n) (map (name_at names) ns) (named names (n ∷ ns) are h))
      ∙ ap (λ (o : Option (List Clause)). o >>= (λ (rs : List Clause). Some (record { private = all; reductions = rs }))) (reductions_back ps k)

  blanks_go : (k : ℕ) → stripped false (replicate k 32) ≡ []
  blanks_go zero = refl
  blanks_go (suc k) = blanks_go k

  pub text_back : (ns : List ℕ) (ps : List Part) (k : ℕ) → AreNumbers names ns → AreNumberedParts names ps
      → read_directive (stripped false (reduction_text names ns ps ++ replicate k 32)) ≡ Some (clauses_of names ns ps)
  text_back ns ps k h e =
      let own : Bytes = private_clause names ns ++ reduction_clauses names ps in
      let stays : Becomes own (closed (front_of ns) ++ closed (pieces_of ps)) =
      becomes_append (private_clause names ns) (reduction_clauses names ps) (closed (front_of ns)) (closed (pieces_of ps)) (front_becomes ns h) (clauses_become ps e) in
      let inner : stripped false (own ++ replicate k 32) ≡ closed (whole ns ps) =
      stays (replicate k 32)
      ∙ ap (λ (z : Bytes). (closed (front_of ns) ++ closed (pieces_of ps)) ++ z) (blanks_go k)
      ∙ append-nil (closed (front_of ns) ++ closed (pieces_of ps))
      ∙ whole_closed ns ps in
      ap (λ (z : Bytes). read_directive (stripped false (z ++ replicate k 32))) (append_assoc (codes "PARALLEL DO") (private_clause names ns) (reduction_clauses names ps))
      ∙ ap (λ (z : Bytes). read_directive (codes "PARALLELDO" ++ z)) inner
      ∙ ap read_clauses (pieces_closed (whole ns ps) (whole_free ns ps h e))
      ∙ whole_back ns ps h e
