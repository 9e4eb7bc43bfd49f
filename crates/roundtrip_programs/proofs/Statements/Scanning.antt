-- What looks for `=`, a comma or the matching parenthesis passes over a balanced text.
use Rattle.std.proofs.Common.{◌≡◌, ℕ, ◌+◌, ◌<◌, List, [], ◌∷◌, ◌++◌, refl, ap, ◌∙◌, arith, append_assoc, Option, Bool, true, false, not, if◌then◌else◌}
use Rattle.std.specs.Prelude.{nat_eq, nat_le, ◌&&◌}
use Rattle.std.proofs.lemmas.Bool.{lt-leb, le-leb, ne_eqb, eq-eqb, and_right, and_left}
use Rattle.f77_forms.specs.declared.outline.Outline.{Outline}
use Rattle.f77_forms.specs.declared.outline.Marks.{Marks}
use Rattle.f77_forms.specs.Outline.{step, is_outer, is_one_deep, has_comma, marks_of, rest_after_close}
use Rattle.f77_printer.specs.ExprText.{doubled}
use Rattle.roundtrip_programs.proofs.Statements.Balanced.{Kind, tight, listed, deep, Balanced, empty, char, comma, inner_comma, equal, quoted, nested, pair}
use Rattle.roundtrip_programs.proofs.Statements.Stripping.{Quiet, quiet_parts}

-- outside constants, with d parentheses open
pub record Level (d : ℕ) (o : Outline) : Type 0 where
  pub plain : o.quoted ≡ false
  pub depth : o.opens ≡ o.closes + d

abbrev pub opened : Outline → Outline
opened o = record o { opens = o.opens + 1 }

abbrev pub closed : Outline → Outline
closed o = record o { closes = o.closes + 1 }

abbrev pub toggled : Outline → Outline
toggled o = record o { quoted = not o.quoted }

-- how it goes over characters; Fine tells the levels at which it passes over what a text of a kind has
pub record Scanner {R : Type 0} (scan : Outline → List ℕ → R) (Fine : Kind → ℕ → Type 0) : Type 0 where
  pub quiet : (c : ℕ) (o : Outline) (cs : List ℕ) → Quiet c → o.quoted ≡ false → scan o (c ∷ cs) ≡ scan o cs
  pub comma : (o : Outline) (d : ℕ) (cs : List ℕ) → Level d o → Fine listed d → scan o (44 ∷ cs) ≡ scan o cs
  pub equal : (o : Outline) (d : ℕ) (cs : List ℕ) → Level d o → Fine deep d → scan o (61 ∷ cs) ≡ scan o cs
  pub opening : (o : Outline) (cs : List ℕ) → o.quoted ≡ false → scan o (40 ∷ cs) ≡ scan (opened o) cs
  pub closing : (o : Outline) (d : ℕ) (cs : List ℕ) → Level (d + 1) o → Fine deep (d + 1) → (k : Kind) → Fine k d → scan o (41 ∷ cs) ≡ scan (closed o) cs
  pub apostrophe : (o : Outline) (cs : List ℕ) → scan o (39 ∷ cs) ≡ scan (toggled o) cs
  pub inside : (c : ℕ) (o : Outline) (cs : List ℕ) → o.quoted ≡ true → nat_eq c 39 ≡ false → scan o (c ∷ cs) ≡ scan o cs
  pub inner : (k : Kind) (d : ℕ) → Fine k d → Fine deep (d + 1)
  pub commas : (d : ℕ) → Fine deep d → Fine listed d

-- the text was passed over, at the level at which it began
pub record Passed {R : Type 0} (scan : Outline → List ℕ → R) (o : Outline) (t rest : List ℕ) (d : ℕ) : Type 0 where
  pub reached : Outline
  pub level : Level d reached
  pub same : scan o (t ++ rest) ≡ scan reached rest

-- ---- a constant

twice : (b : Bool) → not (not b) ≡ b
twice true = refl
twice false = refl

constant_at : {R : Type 0} (scan : Outline → List ℕ → R) (Fine : Kind → ℕ → Type 0) → Scanner scan Fine → (b : Bool) (c : ℕ) (cs rest : List ℕ) (o : Outline) → nat_eq c 39 ≡ b → o.quoted ≡ true
    → scan o (doubled cs ++ rest) ≡ scan o rest → scan o ((if b then 39 ∷ 39 ∷ doubled cs else c ∷ doubled cs) ++ rest) ≡ scan o rest
constant_at scan Fine x true c cs rest o e q h =
    x.apostrophe o (39 ∷ (doubled cs ++ rest)) ∙ x.apostrophe (toggled o) (doubled cs ++ rest)
    ∙ ap (λ (b : Bool). scan (record o { quoted = b }) (doubled cs ++ rest)) (twice o.quoted) ∙ h
constant_at scan Fine x false c cs rest o e q h = x.inside c o (doubled cs ++ rest) q e ∙ h

constant_passed : {R : Type 0} (scan : Outline → List ℕ → R) (Fine : Kind → ℕ → Type 0) → Scanner scan Fine → (c rest : List ℕ) (o : Outline) → o.quoted ≡ true → scan o (doubled c ++ rest) ≡ scan o rest
constant_passed scan Fine x [] rest o q = refl
constant_passed scan Fine x (c ∷ cs) rest o q = constant_at scan Fine x (nat_eq c 39) c cs rest o refl q (constant_passed scan Fine x cs rest o q)

quoted_passed : {R : Type 0} (scan : Outline → List ℕ → R) (Fine : Kind → ℕ → Type 0) → Scanner scan Fine → (c rest : List ℕ) (o : Outline) → o.quoted ≡ false
    → scan o ((39 ∷ (doubled c ++ (39 ∷ []))) ++ rest) ≡ scan o rest
quoted_passed scan Fine x c rest o q =
    let t : (toggled o).quoted ≡ true = rw q in
    x.apostrophe o ((doubled c ++ (39 ∷ [])) ++ rest)
    ∙ ap (scan (toggled o)) (append_assoc (doubled c) (39 ∷ []) rest)
    ∙ constant_passed scan Fine x c (39 ∷ rest) (toggled o) t
    ∙ x.apostrophe (toggled o) rest
    ∙ ap (λ (b : Bool). scan (record o { quoted = b }) rest) (twice o.quoted)

-- ---- the whole

pub passes : {R : Type 0} (scan : Outline → List ℕ → R) (Fine : Kind → ℕ → Type 0) → Scanner scan Fine → {k : Kind} {t : List ℕ} → Balanced k t → (o : Outline) (rest : List ℕ) (d : ℕ) → Level d o → Fine k d
    → Passed scan o t rest d
passes scan Fine x (empty k) o rest d l f = record { reached = o; level = l; same = refl }
passes scan Fine x (char k c h) o rest d l f = record { reached = o; level = l; same = x.quiet c o rest (quiet_parts c h) l.plain }
passes scan Fine x comma o rest d l f = record { reached = o; level = l; same = x.comma o d rest l f }
passes scan Fine x inner_comma o rest d l f = record { reached = o; level = l; same = x.comma o d rest l (x.commas d f) }
passes scan Fine x equal o rest d l f = record { reached = o; level = l; same = x.equal o d rest l f }
passes scan Fine x (quoted k c) o rest d l f = record { reached = o; level = l; same = quoted_passed scan Fine x c rest o l.plain }
passes scan Fine x (nested k t y) o rest d l f =
    let m : Level (d + 1) (opened o) = record { plain = l.plain; depth = omega (arith, l.depth) } in
    let i : Fine deep (d + 1) = x.inner k d f in
    let p = passes scan Fine x y (opened o) (41 ∷ rest) (d + 1) m i in
    record {
      reached = closed p.reached;
      level = record { plain = p.level.plain; depth = omega (arith, p.level.depth) };
      same = x.opening o ((t ++ (41 ∷ [])) ++ rest) l.plain ∙ ap (scan (opened o)) (append_assoc t (41 ∷ []) rest) ∙ p.same ∙ x.closing p.reached d rest p.level i k f;
    }
passes scan Fine x (pair k a b y z) o rest d l f =
    let p = passes scan Fine x y o (b ++ rest) d l f in
    let q = passes scan Fine x z p.reached rest d p.level f in
    record { reached = q.reached; level = q.level; same = ap (scan o) (append_assoc a b rest) ∙ p.same ∙ q.same }

-- ---- the three that look

outer-no : (o : Outline) (d : ℕ) → Level d o → 0 < d → is_outer o ≡ false
outer-no o d l h = let e = l.depth in and_right (not o.quoted) (nat_le o.opens o.closes) (lt-leb o.opens o.closes (omega arith))

pub outer-yes : (o : Outline) → Level 0 o → is_outer o ≡ true
outer-yes o l =
    let e = l.depth in
    let p : o.quoted ≡ false = l.plain in
    let q : nat_le o.opens o.closes ≡ true = le-leb o.opens o.closes (omega arith) in
    rw (p, q)

quoted-no : (o : Outline) → o.quoted ≡ true → is_outer o ≡ false
quoted-no o q = rw q

-- commas pass in any text, `=` only inside parentheses
abbrev pub MarksFine : Kind → ℕ → Type 0
MarksFine tight d = Unit {0}
MarksFine listed d = Unit {0}
MarksFine deep d = 0 < d

both_no : (t : Bool) (o : Outline) → is_outer o ≡ false → (t && is_outer o) ≡ false
both_no t o h = and_right t (is_outer o) h

-- what a step does to the outline
step_quiet : (c : ℕ) (o : Outline) → Quiet c → o.quoted ≡ false → step c o ≡ o
step_quiet c o q p = rw (q.apostrophe, p, q.opening, q.closing)

step_inside : (c : ℕ) (o : Outline) → o.quoted ≡ true → nat_eq c 39 ≡ false → step c o ≡ o
step_inside c o p n = rw (n, p)

step_other : (o : Outline) → (if o.quoted then o else o) ≡ o
step_other o = same o.quoted
  where
    same : (b : Bool) → (if b then o else o) ≡ o
    same true = refl
    same false = refl

step_plain : (b : Bool) (o p : Outline) → b ≡ false → (if b then o else p) ≡ p
step_plain true o p h = cc
step_plain false o p h = refl

marks_unless : (b : Bool) (x y : Marks) → b ≡ false → (if b then x else y) ≡ y
marks_unless true x y h = cc
marks_unless false x y h = refl

pub marks_scanner : Scanner marks_of MarksFine
marks_scanner = record {
  quiet = λ c o cs q p. rw q.equal (ap (λ (x : Outline). marks_of x cs) (step_quiet c o q p));
  comma = λ o d cs l f. ap (λ (x : Outline). marks_of x cs) (step_other o);
  equal = λ o d cs l f. marks_unless (is_outer o) _ (marks_of (step 61 o) cs) (outer-no o d l f) ∙ ap (λ (x : Outline). marks_of x cs) (step_other o);
  opening = λ o cs p. ap (λ (x : Outline). marks_of x cs) (step_plain o.quoted o (opened o) p);
  closing = λ o d cs l i k f. ap (λ (x : Outline). marks_of x cs) (step_plain o.quoted o (closed o) l.plain);
  apostrophe = λ o cs. refl;
  inside = λ c o cs p n. marks_unless (nat_eq c 61 && is_outer o) _ (marks_of (step c o) cs) (both_no (nat_eq c 61) o (quoted-no o p)) ∙ ap (λ (x : Outline). marks_of x cs) (step_inside c o p n);
  inner = λ k d f. omega arith;
  commas = λ d f. tt;
}

-- neither commas nor `=` outside parentheses
abbrev pub CommaFine : Kind → ℕ → Type 0
CommaFine tight d = Unit {0}
CommaFine listed d = 0 < d
CommaFine deep d = 0 < d

bool_unless : (b : Bool) (x y : Bool) → b ≡ false → (if b then x else y) ≡ y
bool_unless true x y h = cc
bool_unless false x y h = refl

pub comma_scanner : Scanner has_comma CommaFine
comma_scanner = record {
  quiet = λ c o cs q p. rw q.comma (ap (λ (x : Outline). has_comma x cs) (step_quiet c o q p));
  comma = λ o d cs l f. bool_unless (is_outer o) _ (has_comma (step 44 o) cs) (outer-no o d l f) ∙ ap (λ (x : Outline). has_comma x cs) (step_other o);
  equal = λ o d cs l f. ap (λ (x : Outline). has_comma x cs) (step_other o);
  opening = λ o cs p. ap (λ (x : Outline). has_comma x cs) (step_plain o.quoted o (opened o) p);
  closing = λ o d cs l i k f. ap (λ (x : Outline). has_comma x cs) (step_plain o.quoted o (closed o) l.plain);
  apostrophe = λ o cs. refl;
  inside = λ c o cs p n. bool_unless (nat_eq c 44 && is_outer o) _ (has_comma (step c o) cs) (both_no (nat_eq c 44) o (quoted-no o p)) ∙ ap (λ (x : Outline). has_comma x cs) (step_inside c o p n);
  inner = λ k d f. omega arith;
  commas = λ d f. f;
}

-- inside the parenthesis whose end is looked for
abbrev pub CloseFine : Kind → ℕ → Type 0
CloseFine k d = 0 < d

close_unless : (b : Bool) (x y : Option (List ℕ)) → b ≡ false → (if b then x else y) ≡ y
close_unless true x y h = cc
close_unless false x y h = refl

deep-no : (o : Outline) (d : ℕ) → Level (d + 1) o → 0 < d → is_one_deep o ≡ false
deep-no o d l h = let e = l.depth in and_right (not o.quoted) (nat_eq o.opens (o.closes + 1)) (ne_eqb o.opens (o.closes + 1) (λ f. omega arith))

quoted-not_deep : (o : Outline) → o.quoted ≡ true → is_one_deep o ≡ false
quoted-not_deep o q = rw q

pub deep-yes : (o : Outline) → Level 1 o → is_one_deep o ≡ true
deep-yes o l =
    let e = l.depth in
    let p : o.quoted ≡ false = l.plain in
    let q : nat_eq o.opens (o.closes + 1) ≡ true = eq-eqb o.opens (o.closes + 1) e in
    rw (p, q)

pub close_scanner : Scanner rest_after_close CloseFine
close_scanner = record {
  quiet = λ c o cs q p. close_unless (nat_eq c 41 && is_one_deep o) _ (rest_after_close (step c o) cs) (and_left (nat_eq c 41) (is_one_deep o) q.closing) ∙ ap (λ (x : Outline). rest_after_close x cs) (step_quiet c o q p);
  comma = λ o d cs l f. ap (λ (x : Outline). rest_after_close x cs) (step_other o);
  equal = λ o d cs l f. ap (λ (x : Outline). rest_after_close x cs) (step_other o);
  opening = λ o cs p. ap (λ (x : Outline). rest_after_close x cs) (step_plain o.quoted o (opened o) p);
  closing = λ o d cs l i k f. close_unless (is_one_deep o) _ (rest_after_close (step 41 o) cs) (deep-no o d l f) ∙ ap (λ (x : Outline). rest_after_close x cs) (step_plain o.quoted o (closed o) l.plain);
  apostrophe = λ o cs. refl;
  inside = λ c o cs p n. close_unless (nat_eq c 41 && is_one_deep o) _ (rest_after_close (step c o) cs) (and_right (nat_eq c 41) (is_one_deep o) (quoted-not_deep o p)) ∙ ap (λ (x : Outline). rest_after_close x cs) (step_inside c o p n);
  inner = λ k d f. omega arith;
  commas = λ d f. f;
}
