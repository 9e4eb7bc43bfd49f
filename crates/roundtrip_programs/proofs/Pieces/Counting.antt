-- The same lines further on in a text.
use Rattle.std.proofs.Common.{◌≡◌, ℕ, ◌+◌, List, [], ◌∷◌, map, refl, ap, ◌∙◌, arith, Bool, true, false}
use Rattle.std.specs.Prelude.{Option, Some, None, option_map}
use Rattle.fixed_form.specs.declared.line.Line.{Line}
use Rattle.fixed_form.specs.Cards.{is_comment, is_dropped, card, is_initial}
use Rattle.fixed_form.specs.Reading.{Rest, with_line, rest_from}
use Rattle.roundtrip_programs.specs.Pieces.Moved.{moved_line}
use Rattle.roundtrip_programs.proofs.Pieces.Cutting.{line_by, given}

abbrev pub moved_rest : ℕ → Rest → Rest
moved_rest by r = given r.more (option_map (λ k. k + by) r.last) r.inside (map (moved_line by) r.statements) r.closing

moved-by : (b d i : Bool) (by n : ℕ) (l c more : List ℕ) (last : Option ℕ) (inside : List (List ℕ)) (ss : List Line) (cs : List (List ℕ))
    → line_by b d i (n + by) l c (moved_rest by (given more last inside ss cs)) ≡ moved_rest by (line_by b d i n l c (given more last inside ss cs))
moved-by true true i by n l c more last inside ss cs = refl
moved-by true false i by n l c more (Some k) inside ss cs = refl
moved-by true false i by n l c more None inside [] cs = refl
moved-by true false i by n l c more None inside (s ∷ ss) cs = refl
moved-by false d true by n l c more (Some k) inside ss cs = refl
moved-by false d true by n l c more None inside ss cs = refl
moved-by false d false by n l c more (Some k) inside ss cs = refl
moved-by false d false by n l c more None inside ss cs = refl

pub rest-moved : (by : ℕ) (ls : List (List ℕ)) (n : ℕ) → rest_from (n + by) ls ≡ moved_rest by (rest_from n ls)
unfolding rest_from
rest-moved by [] n = refl
rest-moved by (l ∷ ls) n =
    let r = rest_from (n + 1) ls in
    let e : n + by + 1 ≡ n + 1 + by = omega arith in
    ap (λ k. with_line (n + by) l (rest_from k ls)) e ∙ ap (with_line (n + by) l) (rest-moved by ls (n + 1))
    ∙ moved-by (is_comment l) (is_dropped l) (is_initial (card l)) by n l (card l) r.more r.last r.inside r.statements r.closing
