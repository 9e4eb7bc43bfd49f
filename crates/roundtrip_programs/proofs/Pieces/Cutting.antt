-- The lines of a text, cut after the last line of a statement.
use Rattle.std.proofs.Common.{◌≡◌, ℕ, ◌+◌, List, [], ◌∷◌, ◌++◌, length, refl, ap, sym, ◌∙◌, subst, arith, Bool, true, false, if◌then◌else◌, ◌⊎◌, inl, inr}
use Rattle.std.specs.Prelude.{Option, Some, None, unwrap_or}
use Rattle.fixed_form.specs.declared.line.Line.{Line}
use Rattle.fixed_form.specs.Body.{stripped}
use Rattle.fixed_form.specs.Cards.{is_comment, is_dropped, card, columns, is_initial, label_field}
use Rattle.fixed_form.specs.Reading.{Rest, with_comment, with_initial, with_continuation, with_line, label_of, rest_from}

-- what a line adds to what the lines after it give: a comment or not, dropped or not, initial or not
abbrev pub line_by : Bool → Bool → Bool → ℕ → List ℕ → List ℕ → Rest → Rest
line_by b d i n l c r = if b then (if d then r else with_comment l r) else if i then with_initial n c r else with_continuation n c r

abbrev pub given : List ℕ → Option ℕ → List (List ℕ) → List Line → List (List ℕ) → Rest
given more last inside ss cs = record { more = more; last = last; inside = inside; statements = ss; closing = cs }

-- lines without any statement begun before them
abbrev pub outer : Rest → Rest
outer r = given [] None [] r.statements r.closing

-- the lines of the statement begun before, up to this one
abbrev pub inner : Rest → ℕ → Rest
inner r m = given r.more (Some m) r.inside [] []

-- the lines up to the last one of a statement
abbrev pub up_to : Rest → List Line → Line → Rest
up_to r before s = given r.more r.last r.inside (before ++ s ∷ []) []

-- lines from line n on, cut after line m, and what both parts give
pub record Cut (n : ℕ) (ls : List (List ℕ)) (m : ℕ) (fore aft : Rest) : Type 0 where
  pub front : List (List ℕ)
  pub back : List (List ℕ)
  pub whole : ls ≡ front ++ back
  pub count : n + length front ≡ m + 1
  pub front_gives : rest_from n front ≡ fore
  pub back_gives : rest_from (m + 1) back ≡ aft

extend : (n : ℕ) (l : List ℕ) (ls : List (List ℕ)) (m : ℕ) (fore aft : Rest) → Cut (n + 1) ls m fore aft → Cut n (l ∷ ls) m (with_line n l fore) aft
unfolding rest_from
extend n l ls m fore aft c = record {
  front = l ∷ c.front;
  back = c.back;
  whole = ap (λ xs. l ∷ xs) c.whole;
  count = let e = c.count in omega arith;
  front_gives = ap (with_line n l) c.front_gives;
  back_gives = c.back_gives;
}

-- cut after the first of them
here : (n : ℕ) (l : List ℕ) (ls : List (List ℕ)) (aft : Rest) → rest_from (n + 1) ls ≡ aft → Cut n (l ∷ ls) n (with_line n l (given [] None [] [] [])) aft
unfolding rest_from
here n l ls aft e = record { front = l ∷ []; back = ls; whole = refl; count = omega arith; front_gives = refl; back_gives = e }

recut : (n : ℕ) (ls : List (List ℕ)) (m : ℕ) (fore fore' aft aft' : Rest) → fore ≡ fore' → aft ≡ aft' → Cut n ls m fore aft → Cut n ls m fore' aft'
recut n ls m fore fore' aft aft' p q c = record {
  front = c.front;
  back = c.back;
  whole = c.whole;
  count = c.count;
  front_gives = c.front_gives ∙ p;
  back_gives = c.back_gives ∙ q;
}

-- ---- without a line that goes on with a statement before them, lines give nothing to it

pub record IsCalm (r : Rest) : Type 0 where
  pub more : r.more ≡ []
  pub inside : r.inside ≡ []

calm-by : (b d i : Bool) (n : ℕ) (l c more : List ℕ) (last : Option ℕ) (inside : List (List ℕ)) (ss : List Line) (cs : List (List ℕ))
    → (last ≡ None → IsCalm (given more last inside ss cs)) → (line_by b d i n l c (given more last inside ss cs)).last ≡ None → IsCalm (line_by b d i n l c (given more last inside ss cs))
calm-by true true i n l c more last inside ss cs h e = h e
calm-by true false i n l c more (Some k) inside ss cs h e = cc
calm-by true false i n l c more None inside [] cs h e = let g = h refl in record { more = g.more; inside = g.inside }
calm-by true false i n l c more None inside (s ∷ ss) cs h e = let g = h refl in record { more = g.more; inside = g.inside }
calm-by false d true n l c more last inside ss cs h e = record { more = refl; inside = refl }
calm-by false d false n l c more last inside ss cs h e = cc

pub calm : (n : ℕ) (ls : List (List ℕ)) → (rest_from n ls).last ≡ None → IsCalm (rest_from n ls)
unfolding rest_from
calm n [] e = record { more = refl; inside = refl }
calm n (l ∷ ls) e =
    let r = rest_from (n + 1) ls in
    calm-by (is_comment l) (is_dropped l) (is_initial (card l)) n l (card l) r.more r.last r.inside r.statements r.closing (calm (n + 1) ls) e

outer-calm : (more : List ℕ) (last : Option ℕ) (inside : List (List ℕ)) (ss : List Line) (cs : List (List ℕ)) → last ≡ None → IsCalm (given more last inside ss cs)
    → given more last inside ss cs ≡ given [] None [] ss cs
outer-calm more last inside ss cs e h =
    ap (λ x. given x last inside ss cs) h.more ∙ ap (λ x. given [] x inside ss cs) e ∙ ap (λ x. given [] None x ss cs) h.inside

pub calm-outer : (n : ℕ) (ls : List (List ℕ)) → (rest_from n ls).last ≡ None → rest_from n ls ≡ outer (rest_from n ls)
calm-outer n ls e = let r = rest_from n ls in outer-calm r.more r.last r.inside r.statements r.closing e (calm n ls e)

-- ---- cut after the last line of the statement begun before

-- this line is the last one
record EndsHere (b d i : Bool) (n : ℕ) (l c : List ℕ) (m : ℕ) (r : Rest) : Type 0 where
  pub line : n ≡ m
  pub last : r.last ≡ None
  pub fore : line_by b d i n l c (given [] None [] [] []) ≡ inner (line_by b d i n l c (outer r)) n
  pub aft : outer r ≡ outer (line_by b d i n l c r)

-- a line after it is
record EndsLater (b d i : Bool) (n : ℕ) (l c : List ℕ) (m : ℕ) (r : Rest) : Type 0 where
  pub last : r.last ≡ Some m
  pub fore : line_by b d i n l c (inner r m) ≡ inner (line_by b d i n l c r) m
  pub aft : outer r ≡ outer (line_by b d i n l c r)

ends : (b d i : Bool) (n : ℕ) (l c : List ℕ) (m : ℕ) (more : List ℕ) (last : Option ℕ) (inside : List (List ℕ)) (ss : List Line) (cs : List (List ℕ))
    → (line_by b d i n l c (given more last inside ss cs)).last ≡ Some m
    → EndsHere b d i n l c m (given more last inside ss cs) ⊎ EndsLater b d i n l c m (given more last inside ss cs)
ends true true i n l c m more last inside ss cs e = inr (record { last = e; fore = refl; aft = refl })
ends true false i n l c m more (Some k) inside ss cs e = inr (record { last = e; fore = refl; aft = refl })
ends true false i n l c m more None inside [] cs e = cc
ends true false i n l c m more None inside (s ∷ ss) cs e = cc
ends false d true n l c m more last inside ss cs e = cc
ends false d false n l c m more (Some k) inside ss cs e = inr (record { last = e; fore = refl; aft = refl })
ends false d false n l c m more None inside ss cs e = inl (record { line = let x : n ≡ m = cc in x; last = refl; fore = refl; aft = refl })

pub cut_last : (n : ℕ) (ls : List (List ℕ)) (m : ℕ) → (rest_from n ls).last ≡ Some m → Cut n ls m (inner (rest_from n ls) m) (outer (rest_from n ls))
unfolding rest_from
cut_last n [] m e = cc
cut_last n (l ∷ ls) m e =
    let r = rest_from (n + 1) ls in
    elim (ends (is_comment l) (is_dropped l) (is_initial (card l)) n l (card l) m r.more r.last r.inside r.statements r.closing e) [
      | inl h ↦ let same : r ≡ outer r = calm-outer (n + 1) ls h.last in
          let P : ℕ → Type 0 = λ k. Cut n (l ∷ ls) k (inner (rest_from n (l ∷ ls)) k) (outer (rest_from n (l ∷ ls))) in
          subst P h.line (recut n (l ∷ ls) n (with_line n l (given [] None [] [] [])) (inner (rest_from n (l ∷ ls)) n) (outer r) (outer (rest_from n (l ∷ ls)))
          (h.fore ∙ ap (λ x. inner (with_line n l x) n) (sym same)) h.aft (here n l ls (outer r) same))
      | inr h ↦ recut n (l ∷ ls) m (with_line n l (inner r m)) (inner (rest_from n (l ∷ ls)) m) (outer r) (outer (rest_from n (l ∷ ls))) h.fore h.aft
          (extend n l ls m (inner r m) (outer r) (cut_last (n + 1) ls m h.last))
    ]

-- ---- cut after the last line of a statement

-- the statement begins here, or later: then it is one of the rest, with fewer before it
record BeginsHere (b d i : Bool) (n : ℕ) (l c : List ℕ) (s : Line) (before behind : List Line) (r : Rest) : Type 0 where
  pub plain : b ≡ false
  pub initial : i ≡ true
  pub none : before ≡ []
  pub after : r.statements ≡ behind

record BeginsLater (b d i : Bool) (n : ℕ) (l c : List ℕ) (s : Line) (before after : List Line) (r : Rest) : Type 0 where
  pub own : Line
  pub own_before : List Line
  pub later : r.statements ≡ own_before ++ own ∷ after
  pub last : own.last ≡ s.last
  pub fore : line_by b d i n l c (up_to r own_before own) ≡ up_to (line_by b d i n l c r) before s
  pub aft : r.closing ≡ (line_by b d i n l c r).closing

none-there : {P : Type 0} (before after : List Line) (s : Line) → [] ≡ before ++ s ∷ after → P
none-there [] after s e = cc
none-there (x ∷ xs) after s e = cc

commented-first : (n : ℕ) (l c : List ℕ) (i : Bool) (more : List ℕ) (inside : List (List ℕ)) (t : Line) (ts : List Line) (cs : List (List ℕ)) (before : List Line) (s : Line) (after : List Line)
    → record t { comments = l ∷ t.comments } ∷ ts ≡ before ++ s ∷ after → BeginsLater true false i n l c s before after (given more None inside (t ∷ ts) cs)
commented-first n l c i more inside t ts cs [] s after e =
    let first : record t { comments = l ∷ t.comments } ≡ s = cc in
    let others : ts ≡ after = cc in record {
      own = t;
      own_before = [];
      later = ap (λ xs. t ∷ xs) others;
      last = ap (λ x. x.last) first;
      fore = ap (λ x. given more None inside (x ∷ []) []) first;
      aft = refl;
    }
commented-first n l c i more inside t ts cs (x ∷ xs) s after e =
    let first : record t { comments = l ∷ t.comments } ≡ x = cc in
    let others : ts ≡ xs ++ s ∷ after = cc in record {
      own = s;
      own_before = t ∷ xs;
      later = ap (λ ys. t ∷ ys) others;
      last = refl;
      fore = ap (λ y. given more None inside (y ∷ xs ++ s ∷ []) []) first;
      aft = refl;
    }

begins : (b d i : Bool) (n : ℕ) (l c : List ℕ) (more : List ℕ) (last : Option ℕ) (inside : List (List ℕ)) (ss : List Line) (cs : List (List ℕ)) (before : List Line) (s : Line) (after : List Line)
    → (line_by b d i n l c (given more last inside ss cs)).statements ≡ before ++ s ∷ after
    → BeginsHere b d i n l c s before after (given more last inside ss cs) ⊎ BeginsLater b d i n l c s before after (given more last inside ss cs)
begins true true i n l c more last inside ss cs before s after e = inr (record { own = s; own_before = before; later = e; last = refl; fore = refl; aft = refl })
begins true false i n l c more (Some k) inside ss cs before s after e = inr (record { own = s; own_before = before; later = e; last = refl; fore = refl; aft = refl })
begins true false i n l c more None inside [] cs before s after e = none-there before after s e
begins true false i n l c more None inside (t ∷ ts) cs before s after e = inr (commented-first n l c i more inside t ts cs before s after e)
begins false d true n l c more last inside ss cs [] s after e = inl (record { plain = refl; initial = refl; none = refl; after = let x : ss ≡ after = cc in x })
begins false d true n l c more last inside ss cs (x ∷ xs) s after e =
    let others : ss ≡ xs ++ s ∷ after = cc in
    let first : (line_by false d true n l c (given more last inside [] [])).statements ≡ x ∷ [] = cc in
    inr (record { own = s; own_before = xs; later = others; last = refl; fore = ap (λ ys. given [] None [] (ys ++ (xs ++ s ∷ [])) []) first; aft = refl })
begins false d false n l c more last inside ss cs before s after e = inr (record { own = s; own_before = before; later = e; last = refl; fore = refl; aft = refl })

abbrev made : ℕ → List ℕ → Rest → Line
made n c r = record { first = n; last = unwrap_or r.last n; label = label_of (label_field c); body = stripped false (columns c ++ r.more); comments = r.inside }

chosen : (b d i : Bool) (n : ℕ) (l c : List ℕ) (r : Rest) → b ≡ false → i ≡ true → line_by b d i n l c r ≡ with_initial n c r
chosen false d true n l c r p q = refl
chosen true d i n l c r p q = cc
chosen false d false n l c r p q = cc

begin-last : (n : ℕ) (l : List ℕ) (ls : List (List ℕ)) (s : Line) (after : List Line) (k : ℕ) → is_comment l ≡ false → is_initial (card l) ≡ true → (rest_from (n + 1) ls).last ≡ Some k
    → made n (card l) (rest_from (n + 1) ls) ≡ s → (rest_from (n + 1) ls).statements ≡ after
    → Cut n (l ∷ ls) s.last (given [] None [] (s ∷ []) []) (given [] None [] after (rest_from (n + 1) ls).closing)
begin-last n l ls s after k p q e f g =
    let r = rest_from (n + 1) ls in
    let c = card l in
    let at : unwrap_or r.last n ≡ k = ap (λ x. unwrap_or x n) e in
    let same : made n c (inner r k) ≡ made n c r = ap (λ m. record { first = n; last = m; label = label_of (label_field c); body = stripped false (columns c ++ r.more); comments = r.inside }) (sym at) in
    let P : ℕ → Type 0 = λ m. Cut n (l ∷ ls) m (given [] None [] (s ∷ []) []) (given [] None [] after r.closing) in
    subst P (sym at ∙ ap (λ x. x.last) f)
    (recut n (l ∷ ls) k (with_line n l (inner r k)) (given [] None [] (s ∷ []) []) (outer r) (given [] None [] after r.closing)
    (chosen (is_comment l) (is_dropped l) (is_initial (card l)) n l c (inner r k) p q ∙ ap (λ x. given [] None [] (x ∷ []) []) (same ∙ f))
    (ap (λ ss. given [] None [] ss r.closing) g)
    (extend n l ls k (inner r k) (outer r) (cut_last (n + 1) ls k e)))

begin-none : (n : ℕ) (l : List ℕ) (ls : List (List ℕ)) (s : Line) (after : List Line) → is_comment l ≡ false → is_initial (card l) ≡ true → (rest_from (n + 1) ls).last ≡ None
    → made n (card l) (rest_from (n + 1) ls) ≡ s → (rest_from (n + 1) ls).statements ≡ after
    → Cut n (l ∷ ls) s.last (given [] None [] (s ∷ []) []) (given [] None [] after (rest_from (n + 1) ls).closing)
begin-none n l ls s after p q e f g =
    let r = rest_from (n + 1) ls in
    let c = card l in
    let same : r ≡ outer r = calm-outer (n + 1) ls e in
    let at : unwrap_or r.last n ≡ n = ap (λ x. unwrap_or x n) e in
    let P : ℕ → Type 0 = λ m. Cut n (l ∷ ls) m (given [] None [] (s ∷ []) []) (given [] None [] after r.closing) in
    subst P (sym at ∙ ap (λ x. x.last) f)
    (recut n (l ∷ ls) n (with_line n l (given [] None [] [] [])) (given [] None [] (s ∷ []) []) (outer r) (given [] None [] after r.closing)
    (chosen (is_comment l) (is_dropped l) (is_initial (card l)) n l c (given [] None [] [] []) p q ∙ ap (λ x. given [] None [] (x ∷ []) []) (ap (made n c) (sym same) ∙ f))
    (ap (λ ss. given [] None [] ss r.closing) g)
    (here n l ls (outer r) same))

begin-at : (last : Option ℕ) (n : ℕ) (l : List ℕ) (ls : List (List ℕ)) (s : Line) (after : List Line) → is_comment l ≡ false → is_initial (card l) ≡ true → (rest_from (n + 1) ls).last ≡ last
    → made n (card l) (rest_from (n + 1) ls) ≡ s → (rest_from (n + 1) ls).statements ≡ after
    → Cut n (l ∷ ls) s.last (given [] None [] (s ∷ []) []) (given [] None [] after (rest_from (n + 1) ls).closing)
begin-at None n l ls s after p q e f g = begin-none n l ls s after p q e f g
begin-at (Some k) n l ls s after p q e f g = begin-last n l ls s after k p q e f g

begin-cut : (n : ℕ) (l : List ℕ) (ls : List (List ℕ)) (before : List Line) (s : Line) (after : List Line) → is_comment l ≡ false → is_initial (card l) ≡ true → before ≡ []
    → (rest_from n (l ∷ ls)).statements ≡ before ++ s ∷ after → Cut n (l ∷ ls) s.last (up_to (rest_from n (l ∷ ls)) before s) (given [] None [] after (rest_from n (l ∷ ls)).closing)
unfolding rest_from
begin-cut n l ls (x ∷ xs) s after p q z e = cc
begin-cut n l ls [] s after p q z e =
    let r = rest_from (n + 1) ls in
    let is : rest_from n (l ∷ ls) ≡ with_initial n (card l) r = chosen (is_comment l) (is_dropped l) (is_initial (card l)) n l (card l) r p q in
    let split : made n (card l) r ∷ r.statements ≡ s ∷ after = sym (ap (λ x. x.statements) is) ∙ e in
    let first : made n (card l) r ≡ s = cc in
    let others : r.statements ≡ after = cc in
    let P : Rest → Type 0 = λ x. Cut n (l ∷ ls) s.last (up_to x [] s) (given [] None [] after x.closing) in
    subst P (sym is) (begin-at r.last n l ls s after p q refl first others)

pub cut_statement : (ls : List (List ℕ)) (n : ℕ) (before : List Line) (s : Line) (after : List Line) → (rest_from n ls).statements ≡ before ++ s ∷ after
    → Cut n ls s.last (up_to (rest_from n ls) before s) (given [] None [] after (rest_from n ls).closing)
unfolding rest_from
cut_statement [] n before s after e = none-there before after s e
cut_statement (l ∷ ls) n before s after e =
    let r = rest_from (n + 1) ls in
    elim (begins (is_comment l) (is_dropped l) (is_initial (card l)) n l (card l) r.more r.last r.inside r.statements r.closing before s after e) [
      | inl h ↦ begin-cut n l ls before s after h.plain h.initial h.none e
      | inr h ↦ let P : ℕ → Type 0 = λ m. Cut n (l ∷ ls) m (up_to (rest_from n (l ∷ ls)) before s) (given [] None [] after (rest_from n (l ∷ ls)).closing) in
          subst P h.last
          (recut n (l ∷ ls) h.own.last (with_line n l (up_to r h.own_before h.own)) (up_to (rest_from n (l ∷ ls)) before s) (given [] None [] after r.closing) (given [] None [] after (rest_from n (l ∷ ls)).closing)
          h.fore (ap (given [] None [] after) h.aft) (extend n l ls h.own.last (up_to r h.own_before h.own) (given [] None [] after r.closing) (cut_statement ls (n + 1) h.own_before h.own after h.later)))
    ]
