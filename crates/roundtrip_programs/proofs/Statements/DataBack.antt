-- DATA: its text without blanks, its form, and that it is read back.
use Rattle.std.proofs.Common.{◌≡◌, ℕ, ◌<◌, ◌≤◌, List, [], ◌∷◌, ◌++◌, length, refl, ap, ◌∙◌, arith, append_assoc, length-append, Option, Some, None, true, false, pos, decimal}
use Rattle.std.specs.Prelude.{codes, Result, Ok, if◌then◌else◌}
use Rattle.f77_ast.specs.declared.expr.UnaryOp.TheVariants.{Plus, Minus}
use Rattle.f77_ast.specs.Trees.{ExprTree, int, log, unary}
use Rattle.f77_ast.specs.DeclTrees.{DataValueTree, DataTree, initial}
use Rattle.f77_exprs.specs.declared.at.Notes.{Notes}
use Rattle.f77_exprs.specs.Words.{after}
use Rattle.f77_exprs.specs.State.{State, parse_word, ◌>>=◌}
use Rattle.f77_exprs.specs.Lexical.{letter_first, digit_first, number_first, after_point, after_exponent}
use Rattle.f77_exprs.specs.Grammar.{comma, items, items_by, more_by, variable, literal}
use Rattle.f77_forms.specs.declared.form.FormId.TheVariants as forms
use Rattle.f77_statements.specs.Lists.{past, ending}
use Rattle.f77_statements.specs.Parts.{integer, signed_integer, data_constant, repeat_value, value_or_count, data_value, data_group, next_group}
use Rattle.f77_statements.specs.Specifications.{data_statement}
use Rattle.f77_statements.specs.Statements.{form_at}
use Rattle.f77_printer.specs.ExprText.{expr_text}
use Rattle.f77_printer.specs.Layout.{stripped}
use Rattle.f77_printer.specs.DeclText.{others_by, joined_by, repeat_text, data_value_text, data_group_text, other_groups_text, decl_text}
use Rattle.roundtrip_programs.specs.Statements.Formed.{Each, Filled, IsVariable}
use Rattle.roundtrip_programs.specs.Statements.Declared.{IsConstant, truth, whole, raised, lowered, MaybeCount, IsValue, IsInitial}
use Rattle.roundtrip_programs.specs.Statements.Follows.{standing}
use Rattle.roundtrip_programs.proofs.Statements.Numbers.{number-back, decimal_first}
use Rattle.roundtrip_programs.proofs.Statements.Behind.{Calm, calm_slash}
use Rattle.roundtrip_programs.proofs.Statements.Fronts.{letter_no_word, digit_no_word}
use Rattle.roundtrip_programs.proofs.Statements.Items.{Listed, items_back}
use Rattle.roundtrip_programs.proofs.Statements.Operands.{number_first-digit}
use Rattle.roundtrip_programs.proofs.Statements.Balanced.{Kind, listed, Balanced, empty, pair, word, decimal_quiet, log_quiet}
use Rattle.roundtrip_programs.proofs.Statements.Stripping.{solid}
use Rattle.roundtrip_programs.proofs.Statements.Compact.{variable_balanced}
use Rattle.roundtrip_programs.proofs.Statements.Forms.{by_keyword}
use Rattle.roundtrip_programs.proofs.Statements.ListsBack.{variables_listed}
use Rattle.roundtrip_programs.proofs.Statements.HeadBack.{variable_letter}
use Rattle.roundtrip_programs.proofs.Statements.DeclBack.{list_balanced, each_of}
use Rattle.roundtrip_programs.proofs.Statements.Chained.{Next, chained_back}

-- ---- a constant and a value

constant_balanced : {e : ExprTree} → IsConstant e → (d : Kind) → Balanced d (expr_text e)
constant_balanced (truth b) d = word d (expr_text (log b)) (log_quiet b)
constant_balanced (whole n h) d = word d (decimal n) (decimal_quiet n h)
constant_balanced (raised n h) d = pair d (codes "+") (decimal n) (word d (codes "+") refl) (word d (decimal n) (decimal_quiet n h))
constant_balanced (lowered n h) d = pair d (codes "-") (decimal n) (word d (codes "-") refl) (word d (decimal n) (decimal_quiet n h))

count_balanced : (o : Option ℕ) → MaybeCount o → (d : Kind) → Balanced d (repeat_text o)
count_balanced None h d = empty d
count_balanced (Some n) h d = pair d (decimal n) (codes "*") (word d (decimal n) (decimal_quiet n h)) (word d (codes "*") refl)

value_balanced : (v : DataValueTree) → IsValue v → (d : Kind) → Balanced d (data_value_text v)
value_balanced v h d = pair d (repeat_text v.repeat) (expr_text v.value) (count_balanced v.repeat h.repeat d) (constant_balanced h.value d)

record EndsValue (t : List ℕ) : Type 0 where
  pub digit : digit_first t ≡ false
  pub point : after_point true t ≡ None
  pub exponent : after_exponent t ≡ None
  pub star : after (codes "*") t ≡ None

value_comma : (u : List ℕ) → EndsValue (44 ∷ u)
value_comma u = record { digit = refl; point = refl; exponent = refl; star = refl }

value_slash : (u : List ℕ) → EndsValue (47 ∷ u)
value_slash u = record { digit = refl; point = refl; exponent = refl; star = refl }

literal_back : (n : ℕ) (t : List ℕ) (k : Notes) → n < 2147483648 → EndsValue t → Some (literal (standing (decimal n ++ t) k)) ≡ Some (int (pos n), standing t k)
literal_back n t k h e = ap (λ (x : ℕ × State). Some (int (pos x.0), x.1)) (number-back n t k h e.digit e.point e.exponent)

integer_back : (n : ℕ) (t : List ℕ) (k : Notes) → n < 2147483648 → EndsValue t → integer (standing (decimal n ++ t) k) ≡ Some (int (pos n), standing t k)
unfolding integer
integer_back n t k h e =
    let f : number_first (decimal n ++ t) ≡ true = number_first-digit (decimal n ++ t) (decimal_first n t h) in
    rw f (literal_back n t k h e)

constant_back : {e : ExprTree} → IsConstant e → (t : List ℕ) (k : Notes) → EndsValue t → data_constant (standing (expr_text e ++ t) k) ≡ Some (e, standing t k)
unfolding data_constant signed_integer
constant_back (truth true) t k s = refl
constant_back (truth false) t k s = refl
constant_back (whole n h) t k s =
    let x : List ℕ = decimal n ++ t in
    let f : digit_first x ≡ true = decimal_first n t h in
    let a : after (codes ".TRUE.") x ≡ None = digit_no_word x 46 (84 ∷ 82 ∷ 85 ∷ 69 ∷ 46 ∷ []) f (omega arith) in
    let b : after (codes ".FALSE.") x ≡ None = digit_no_word x 46 (70 ∷ 65 ∷ 76 ∷ 83 ∷ 69 ∷ 46 ∷ []) f (omega arith) in
    let c : after (codes "+") x ≡ None = digit_no_word x 43 [] f (omega arith) in
    let d : after (codes "-") x ≡ None = digit_no_word x 45 [] f (omega arith) in
    rw (a, b, c, d) (integer_back n t k h s)
constant_back (raised n h) t k s = ap (λ (o : Option (ExprTree × State)). o >>= λ n. Some (unary Plus n.0, n.1)) (integer_back n t k h s)
constant_back (lowered n h) t k s = ap (λ (o : Option (ExprTree × State)). o >>= λ n. Some (unary Minus n.0, n.1)) (integer_back n t k h s)

counted_none : (n : ℕ) (t : List ℕ) (k : Notes) → EndsValue t → value_or_count n (standing t k) ≡ Some (record { repeat = None; value = int (pos n) }, standing t k)
unfolding value_or_count
counted_none n t k s = let z : after (codes "*") t ≡ None = s.star in rw z

value_at : (r : Option ℕ) {e : ExprTree} → MaybeCount r → IsConstant e → (t : List ℕ) (k : Notes) → EndsValue t
    → data_value (standing ((repeat_text r ++ expr_text e) ++ t) k) ≡ Some (record { repeat = r; value = e }, standing t k)
unfolding data_value value_or_count repeat_value
value_at None g (truth true) t k s = ap (λ (o : Option (ExprTree × State)). o >>= λ c. Some (record { repeat = None; value = c.0 }, c.1)) (constant_back (truth true) t k s)
value_at None g (truth false) t k s = ap (λ (o : Option (ExprTree × State)). o >>= λ c. Some (record { repeat = None; value = c.0 }, c.1)) (constant_back (truth false) t k s)
value_at None g (whole n h) t k s =
    let f : number_first (decimal n ++ t) ≡ true = number_first-digit (decimal n ++ t) (decimal_first n t h) in
    rw f (ap (λ (x : ℕ × State). value_or_count x.0 x.1) (number-back n t k h s.digit s.point s.exponent) ∙ counted_none n t k s)
value_at None g (raised n h) t k s = ap (λ (o : Option (ExprTree × State)). o >>= λ c. Some (record { repeat = None; value = c.0 }, c.1)) (constant_back (raised n h) t k s)
value_at None g (lowered n h) t k s = ap (λ (o : Option (ExprTree × State)). o >>= λ c. Some (record { repeat = None; value = c.0 }, c.1)) (constant_back (lowered n h) t k s)
value_at (Some m) {e} g c t k s =
    let u : List ℕ = expr_text e ++ t in
    let f : number_first (decimal m ++ (42 ∷ u)) ≡ true = number_first-digit (decimal m ++ (42 ∷ u)) (decimal_first m (42 ∷ u) g) in
    ap (λ (x : List ℕ). data_value (standing x k)) (append_assoc (decimal m ++ codes "*") (expr_text e) t ∙ append_assoc (decimal m) (codes "*") u)
    ∙ times f
  where
    times : number_first (decimal m ++ (42 ∷ (expr_text e ++ t))) ≡ true → data_value (standing (decimal m ++ (42 ∷ (expr_text e ++ t))) k) ≡ Some (record { repeat = Some m; value = e }, standing t k)
    times f = rw f (ap (λ (x : ℕ × State). value_or_count x.0 x.1) (number-back m (42 ∷ (expr_text e ++ t)) k g refl refl refl)
        ∙ ap (λ (o : Option (ExprTree × State)). o >>= λ c. Some (record { repeat = Some m; value = c.0 }, c.1)) (constant_back c t k s))

values_listed : Listed comma data_value data_value_text EndsValue IsValue
values_listed = record { back = λ v h t k s. value_at v.repeat h.repeat h.value t k s; at_comma = value_comma; goes_on = λ x u k h. refl }

-- ---- groups

abbrev pub group_compact : DataTree → List ℕ → List ℕ
group_compact g u = joined_by expr_text g.targets ++ (47 ∷ (joined_by data_value_text g.values ++ (47 ∷ u)))

abbrev pub compact_data : List DataTree → List ℕ
compact_data [] = []
compact_data (g ∷ gs) = group_compact g (compact_data gs)

pub targets_balanced : (ts : List ExprTree) → Filled IsVariable ts → Balanced listed (joined_by expr_text ts)
targets_balanced ts h = list_balanced expr_text IsVariable variable_balanced ts (each_of IsVariable ts h)

pub values_balanced : (vs : List DataValueTree) → Filled IsValue vs → Balanced listed (joined_by data_value_text vs)
values_balanced vs h = list_balanced data_value_text IsValue value_balanced vs (each_of IsValue vs h)

data_balanced : (gs : List DataTree) → Each IsInitial gs → Balanced listed (compact_data gs)
data_balanced [] h = empty listed
data_balanced (g ∷ gs) h =
    let v : List ℕ = joined_by data_value_text g.values in
    pair listed (joined_by expr_text g.targets) (47 ∷ (v ++ (47 ∷ compact_data gs))) (targets_balanced g.targets h.first.targets)
    (pair listed (codes "/") (v ++ (47 ∷ compact_data gs)) (word listed (codes "/") refl)
    (pair listed v (47 ∷ compact_data gs) (values_balanced g.values h.first.values) (pair listed (codes "/") (compact_data gs) (word listed (codes "/") refl) (data_balanced gs h.others))))

group_shape : (a v u : List ℕ) → (a ++ codes " /" ++ v ++ codes "/") ++ u ≡ a ++ (32 ∷ 47 ∷ (v ++ (47 ∷ u)))
group_shape a v u =
    append_assoc (a ++ codes " /" ++ v) (codes "/") u ∙ append_assoc (a ++ codes " /") v (47 ∷ u) ∙ append_assoc a (codes " /") (v ++ (47 ∷ u))

stripped_group : (g : DataTree) (u : List ℕ) → IsInitial g → stripped false (data_group_text g ++ u) ≡ group_compact g (stripped false u)
stripped_group g u h =
    let v : List ℕ = joined_by data_value_text g.values in
    ap (stripped false) (group_shape (joined_by expr_text g.targets) v u)
    ∙ solid (targets_balanced g.targets h.targets) (32 ∷ 47 ∷ (v ++ (47 ∷ u)))
    ∙ ap (λ (x : List ℕ). joined_by expr_text g.targets ++ (47 ∷ x)) (solid (values_balanced g.values h.values) (47 ∷ u))

stripped_others : (gs : List DataTree) → Each IsInitial gs → stripped false (other_groups_text gs) ≡ compact_data gs
stripped_others [] h = refl
stripped_others (g ∷ gs) h = stripped_group g (other_groups_text gs) h.first ∙ ap (group_compact g) (stripped_others gs h.others)

pub stripped_data : (gs : List DataTree) → Filled IsInitial gs → stripped false (decl_text (initial gs)) ≡ codes "DATA" ++ compact_data gs
stripped_data [] h = absurd h
stripped_data (g ∷ gs) h = ap (λ (x : List ℕ). codes "DATA" ++ x) (stripped_group g (other_groups_text gs) h.first ∙ ap (group_compact g) (stripped_others gs h.others))

pub data_form : (gs : List DataTree) → Filled IsInitial gs → form_at (codes "DATA" ++ compact_data gs) ≡ Ok forms.Data
data_form gs h =
    by_keyword (codes "DATA" ++ compact_data gs) forms.Data refl
    (pair listed (codes "DATA") (compact_data gs) (word listed (codes "DATA") refl) (data_balanced gs (each_of IsInitial gs h))) refl

-- before a slash
slash_back : {A : Type 0} (one : State → Option (A × State)) (x : A) (s : State) (t : List ℕ) (k : Notes) → one s ≡ Some (x, standing (47 ∷ t) k) → ending (codes "/") one s ≡ Some (x, standing t k)
unfolding ending
slash_back one x s t k h = ap (λ (o : Option (_ × State)). o >>= λ r. parse_word (codes "/") r.1 >>= λ t. Some (r.0, t)) h

group_at : (ts : List ExprTree) (vs : List DataValueTree) (u : List ℕ) (k : Notes) → Filled IsVariable ts → Filled IsValue vs
    → data_group (standing (joined_by expr_text ts ++ (47 ∷ (joined_by data_value_text vs ++ (47 ∷ u)))) k) ≡ Some (record { targets = ts; values = vs }, standing u k)
unfolding data_group
group_at [] vs u k h g = absurd h
group_at (t ∷ ts) [] u k h g = absurd g
group_at (t ∷ ts) (v ∷ vs) u k h g =
    let w : List ℕ = joined_by data_value_text (v ∷ vs) ++ (47 ∷ u) in
    ap (λ (o : Option (List ExprTree × State)). o >>= λ ts. ending (codes "/") (items data_value) ts.1 >>= λ vs. Some (record { targets = ts.0; values = vs.0 }, vs.1))
    (slash_back (items variable) (t ∷ ts) (standing (joined_by expr_text (t ∷ ts) ++ (47 ∷ w)) k) w k
    (items_back comma variable expr_text Calm IsVariable variables_listed t ts (47 ∷ w) k h.first h.others (calm_slash w) refl))
    ∙ ap (λ (o : Option (List DataValueTree × State)). o >>= λ vs. Some (record { targets = t ∷ ts; values = vs.0 }, vs.1))
    (slash_back (items data_value) (v ∷ vs) (standing w k) u k (items_back comma data_value data_value_text EndsValue IsValue values_listed v vs (47 ∷ u) k g.first g.others (value_slash u) refl))

group_letter : (ts : List ExprTree) (u : List ℕ) → Filled IsVariable ts → letter_first (joined_by expr_text ts ++ u) ≡ true
group_letter [] u h = absurd h
group_letter (t ∷ ts) u h = ap letter_first (append_assoc (expr_text t) (others_by expr_text ts) u) ∙ variable_letter t (others_by expr_text ts ++ u) h.first

no_comma : (x : List ℕ) (k : Notes) → letter_first x ≡ true → next_group (standing x k) ≡ Some (standing x k)
no_comma [] k h = cc
no_comma (c ∷ cs) k h = let n : after (codes ",") (c ∷ cs) ≡ None = letter_no_word (c ∷ cs) 44 [] h (omega arith) in ap (λ (o : Option (List ℕ)). Some (past (standing (c ∷ cs) k) (Rattle.std.specs.Prelude.option_map (λ (r : List ℕ). standing r k) o))) n

next_read : (k : Notes) (g : DataTree) (gs : List DataTree) → IsInitial g → Each IsInitial gs → Next next_group data_group (compact_data (g ∷ gs)) g (compact_data gs) k
next_read k g gs h e = record {
  behind = standing (compact_data (g ∷ gs)) k;
  stands = no_comma (compact_data (g ∷ gs)) k (group_letter g.targets (47 ∷ (joined_by data_value_text g.values ++ (47 ∷ compact_data gs))) h.targets);
  reads = group_at g.targets g.values (compact_data gs) k h.targets h.values;
}

data_long : (gs : List DataTree) → length gs ≤ length (compact_data gs)
data_long [] = omega arith
data_long (g ∷ gs) =
    let h = data_long gs in
    omega (
      arith,
      h,
      length-append (joined_by expr_text g.targets) (47 ∷ (joined_by data_value_text g.values ++ (47 ∷ compact_data gs))),
      length-append (joined_by data_value_text g.values) (47 ∷ compact_data gs),
    )

pub data_back : (gs : List DataTree) (k : Notes) → Filled IsInitial gs → data_statement (standing (codes "DATA" ++ compact_data gs) k) ≡ Some (initial gs, standing [] k)
unfolding data_statement items_by
data_back [] k h = absurd h
data_back (g ∷ gs) k h =
    ap (λ (o : Option (DataTree × State)). (o >>= λ e. more_by next_group data_group (length e.1.rest) (e.0 ∷ []) e.1) >>= λ gs. Some (initial gs.0, gs.1))
    (group_at g.targets g.values (compact_data gs) k h.first.targets h.first.values)
    ∙ ap (λ (o : Option (List DataTree × State)). o >>= λ gs. Some (initial gs.0, gs.1))
    (chained_back next_group data_group compact_data IsInitial k (next_read k) refl gs (length (compact_data gs)) (g ∷ []) h.others (data_long gs))
