-- The CALLs of a module that is built are statements of the text, or belong to statements of the text, which have their lines.
use Rattle.std.proofs.Common.{◌≡◌, ℕ, ◌+◌, ◌≤◌, inl, inr, Bool, true, false, List, [], ◌∷◌, ◌++◌, refl, sym, ap, ◌∙◌, subst, arith, if◌then◌else◌}
use Rattle.std.specs.Prelude.{Option, Some, None, nat_eq}
use Rattle.std.proofs.lemmas.Bool.Decides.{nat_tests}
use Rattle.f77_ast.specs.declared.places.Spot.{Spot}
use Rattle.f77_ast.specs.Hidden.{is_hidden, carried_by, or_carrier, the_carrier, carrier_in}
use Rattle.f77_ast.specs.Shapes.{IsLeaf, walk_stmt, walk_what, walk_body, walk_arms, walk_else, walk_list}
use Rattle.f77_ast.proofs.WalkLaws.{Induction, every_list, leaf_walk}
use Rattle.f77_ast.specs.StatementNumbers.{stmt_numbers, list_numbers, arms_numbers, else_numbers}
use Rattle.f77_ast.specs.Trees.{StmtTree, stmt, WhatTree, assign, block_if, logical_if, do_loop, call, goto, continue, return, stop, print, read, ArmTrees, more_arms, ElseTree, no_else, StmtTrees, no_stmts, more_stmts}
use Rattle.f77_ast.specs.DeclTrees.{ParsedTree}
use Rattle.f77_ast.specs.PlainStmt.{stmts_of}
use Rattle.f77_ast.specs.Symbols.{SymbolTree}
use Rattle.f77_structure.specs.Steps.{nothing_open}
use Rattle.f77_parser.specs.Statements.{marks_of}
use Rattle.f77_parser.specs.Building.{add_all, no_statements, written_module, build_module}
use Rattle.f77_parser.specs.Elaborated.{Meant, meant_in, hidden_to, hidden_in, elaborated_in, elaborated}
use Rattle.call_graph.specs.declared.calls.Called.{Called}
use Rattle.call_graph.specs.Actuals.{actuals_of}
use Rattle.call_graph.specs.Modules.{has_spot, carrier_or}
use Rattle.call_graph.specs.Calls.{with_list, with_stmt, with_arms, with_else, calls_of}
use Rattle.laws_programs.specs.roundtrip_programs.Statements.Formed.{Each}
use Rattle.laws_programs.specs.roundtrip_programs.ModuleTexts.Numbered.{last_of, last_in, AreNumbered}
use Rattle.laws_programs.proofs.RoundtripPrograms.ModuleTexts.Each.{Each-append}
use Rattle.laws_programs.proofs.RoundtripPrograms.ModuleTexts.Steady.{no-fault}
use Rattle.laws_programs.proofs.RoundtripPrograms.ModuleTexts.Counting.{start_of}
use Rattle.laws_programs.proofs.RoundtripPrograms.ModuleTexts.Well.{all-go, all-closed, nothing-goes}
use Rattle.laws_programs.proofs.RoundtripPrograms.ModuleTexts.Built.{written_well}
use Rattle.laws_programs.proofs.RoundtripPrograms.ModuleTexts.FoldedLaws.{later-of, later-in}
use Rattle.laws_programs.proofs.RoundtripPrograms.ModuleTexts.ElaboratedNumbers.{Rows, rows-up, list-rows}
use Rattle.laws_programs.specs.roundtrip_programs.Texts.Texts.{IsReadAs}
use Rattle.laws_programs.proofs.Sources.{OfBuilt, all_of}
use Rattle.laws_database.proofs.Sources.Spots.{built-spotted}
use Rattle.fx_lists.proofs.Numbers.{same_number}

-- ---- what a statement belongs to

-- there is one
abbrev IsThere : Option ℕ → Type 0
IsThere None = ⊥
IsThere (Some n) = Unit {0}

-- it is so, if there is one
abbrev Maybe : (ℕ → Type 0) → Option ℕ → Type 0
Maybe P None = Unit {0}
Maybe P (Some n) = P n

own-there : (n : ℕ) (o : Option ℕ) → IsThere (if nat_eq n n then Some n else o)
own-there n o = subst (λ b. IsThere (if b then Some n else o)) (sym (same_number n)) tt

found-there : (n k : ℕ) (o : Option ℕ) → IsThere o → IsThere (if nat_eq n k then Some n else o)
found-there n k o h = go (nat_eq n k)
  where
    go : (b : Bool) → IsThere (if b then Some n else o)
    go true = tt
    go false = h

carried-there : (n : ℕ) (o : Option ℕ) → IsThere o → IsThere (carried_by n o)
carried-there n None h = h
carried-there n (Some j) h = tt

first-there : (o p : Option ℕ) → IsThere o → IsThere (or_carrier o p)
first-there None p h = absurd h
first-there (Some j) p h = tt

last-there : (o p : Option ℕ) → IsThere p → IsThere (or_carrier o p)
last-there None p h = h
last-there (Some j) p h = tt

-- ---- the CALLs are found by their numbers

module _ (ss : List SymbolTree) (P : ℕ → Type 0) where
  abbrev All : List Called → Type 0
  All cs = Each (λ (c : Called). P c.at) cs

  -- of each number by which a statement is found
  abbrev OfFound : (ℕ → Option ℕ) → Type 0
  OfFound f = (k : ℕ) → IsThere (f k) → P k

  abbrev InStmt : StmtTree → Type 0
  InStmt s = (cs : List Called) → OfFound (λ k. walk_stmt (the_carrier k) s) → All cs → All (with_stmt s ss cs)

  abbrev InArms : ArmTrees → Type 0
  InArms arms = (cs : List Called) → OfFound (λ k. walk_arms (the_carrier k) arms) → All cs → All (with_arms arms ss cs)

  abbrev InElse : ElseTree → Type 0
  InElse other = (cs : List Called) → OfFound (λ k. walk_else (the_carrier k) other) → All cs → All (with_else other ss cs)

  abbrev InList : StmtTrees → Type 0
  InList list = (cs : List Called) → OfFound (λ k. walk_list (the_carrier k) list) → All cs → All (with_list list ss cs)

  in-leaf : (n : ℕ) (label : Option ℕ) (w : WhatTree) → IsLeaf w → InStmt (stmt n label w)
  in-leaf n label (assign v e) l cs f a = a
  in-leaf n label (block_if arms other) l cs f a = cc
  in-leaf n label (logical_if e s) l cs f a = cc
  in-leaf n label (do_loop d) l cs f a = cc
  in-leaf n label (call c es) l cs f a = Each-append (λ (x : Called). P x.at) cs (record { at = n; callee = c; actuals = actuals_of es ss } ∷ []) a (record { first = f n (own-there n None); others = tt })
  in-leaf n label (goto t) l cs f a = a
  in-leaf n label continue l cs f a = a
  in-leaf n label return l cs f a = a
  in-leaf n label (stop t) l cs f a = a
  in-leaf n label (print es) l cs f a = a
  in-leaf n label (read es) l cs f a = a

  steps : Induction InStmt InArms InElse InList
  steps = record {
    leaf = in-leaf;
    inner = λ n label test s i cs f a.
        i cs (λ k h. let o = walk_stmt (the_carrier k) s in f k (found-there n k (carried_by n o) (carried-there n o h))) a;
    body = λ n label index first last step list i cs f a.
        i cs (λ k h. let o = walk_list (the_carrier k) list in f k (found-there n k (carried_by n o) (carried-there n o h))) a;
    arms = λ n label arms other i j cs f a.
        j (with_arms arms ss cs)
        (λ k h.
        let o = walk_arms (the_carrier k) arms in
        let p = walk_else (the_carrier k) other in
        f k (found-there n k (carried_by n (or_carrier o p)) (carried-there n (or_carrier o p) (last-there o p h))))
        (i cs
        (λ k h.
        let o = walk_arms (the_carrier k) arms in
        let p = walk_else (the_carrier k) other in
        f k (found-there n k (carried_by n (or_carrier o p)) (carried-there n (or_carrier o p) (first-there o p h))))
        a);
    no_arm = λ cs f a. a;
    more_arms = λ test list rest i j cs f a.
        j (with_list list ss cs) (λ k h. f k (last-there (walk_list (the_carrier k) list) (walk_arms (the_carrier k) rest) h))
        (i cs (λ k h. f k (first-there (walk_list (the_carrier k) list) (walk_arms (the_carrier k) rest) h)) a);
    no_else = λ cs f a. a;
    below_else = λ list i cs f a. i cs f a;
    no_statement = λ cs f a. a;
    more_statements = λ s rest i j cs f a.
        j (with_stmt s ss cs) (λ k h. f k (last-there (walk_stmt (the_carrier k) s) (walk_list (the_carrier k) rest) h))
        (i cs (λ k h. f k (first-there (walk_stmt (the_carrier k) s) (walk_list (the_carrier k) rest) h)) a);
  }

  calls-found : (list : StmtTrees) → InList list
  calls-found list = every_list InStmt InArms InElse InList steps list

-- ---- what is so of each number is so of the statement that one belongs to

module _ (P : ℕ → Type 0) (k : ℕ) where
  parts : (xs ys : List ℕ) → Each P (xs ++ ys) → Each P xs × Each P ys
  parts [] ys h = (tt, h)
  parts (x ∷ xs) ys h = let r = parts xs ys h.others in (record { first = h.first; others = r.0 }, r.1)

  found : (n : ℕ) (o : Option ℕ) → P n → Maybe P o → Maybe P (if nat_eq n k then Some n else o)
  found n o h g = go (nat_eq n k)
    where
      go : (b : Bool) → Maybe P (if b then Some n else o)
      go true = h
      go false = g

  carried : (n : ℕ) (o : Option ℕ) → P n → Maybe P o → Maybe P (carried_by n o)
  carried n None h g = tt
  carried n (Some j) h g = go (is_hidden j)
    where
      go : (b : Bool) → P (if b then n else j)
      go true = h
      go false = g

  one-of : (o p : Option ℕ) → Maybe P o → Maybe P p → Maybe P (or_carrier o p)
  one-of None p h g = g
  one-of (Some j) p h g = h

  abbrev OfStmt : StmtTree → Type 0
  OfStmt s = Each P (stmt_numbers s) → Maybe P (walk_stmt (the_carrier k) s)

  abbrev OfArms : ArmTrees → Type 0
  OfArms arms = Each P (arms_numbers arms) → Maybe P (walk_arms (the_carrier k) arms)

  abbrev OfElse : ElseTree → Type 0
  OfElse other = Each P (else_numbers other) → Maybe P (walk_else (the_carrier k) other)

  abbrev OfList : StmtTrees → Type 0
  OfList list = Each P (list_numbers list) → Maybe P (walk_list (the_carrier k) list)

  of-steps : Induction OfStmt OfArms OfElse OfList
  of-steps = record {
    leaf = λ n label w l h. subst (Maybe P) (sym (leaf_walk (the_carrier k) n label w l)) (found n None h.first tt);
    inner = λ n label test s i h. let o = walk_stmt (the_carrier k) s in found n (carried_by n o) h.first (carried n o h.first (i h.others));
    body = λ n label index first last step list i h. let o = walk_list (the_carrier k) list in found n (carried_by n o) h.first (carried n o h.first (i h.others));
    arms = λ n label arms other i j h.
        let r = parts (arms_numbers arms) (else_numbers other) h.others in
        let o = walk_arms (the_carrier k) arms in
        let p = walk_else (the_carrier k) other in
        found n (carried_by n (or_carrier o p)) h.first (carried n (or_carrier o p) h.first (one-of o p (i r.0) (j r.1)));
    no_arm = λ h. tt;
    more_arms = λ test list rest i j h.
        let r = parts (list_numbers list) (arms_numbers rest) h in one-of (walk_list (the_carrier k) list) (walk_arms (the_carrier k) rest) (i r.0) (j r.1);
    no_else = λ h. tt;
    below_else = λ list i h. i h;
    no_statement = λ h. tt;
    more_statements = λ s rest i j h.
        let r = parts (stmt_numbers s) (list_numbers rest) h in one-of (walk_stmt (the_carrier k) s) (walk_list (the_carrier k) rest) (i r.0) (j r.1);
  }

  carrier-so : (list : StmtTrees) → OfList list
  carrier-so list = every_list OfStmt OfArms OfElse OfList of-steps list

-- ---- where each statement of a list is one of the text, so is the statement that one belongs to

abbrev Shown : ℕ → Type 0
Shown n = is_hidden n ≡ false

abbrev AreShown : StmtTrees → Type 0
AreShown no_stmts = Unit {0}
AreShown (more_stmts (stmt n label w) others) = Shown n × AreShown others

carried-shown : (n : ℕ) (o : Option ℕ) → Shown n → Maybe Shown (carried_by n o)
carried-shown n None h = tt
carried-shown n (Some j) h = go (is_hidden j) refl
  where
    go : (b : Bool) → is_hidden j ≡ b → is_hidden (if b then n else j) ≡ false
    go true e = h
    go false e = e

what-shown : (k n : ℕ) (label : Option ℕ) (w : WhatTree) → Shown n → Maybe Shown (walk_what (the_carrier k) n label w)
what-shown k n label (assign v e) h = found Shown k n None h tt
what-shown k n label (block_if arms other) h =
    let o = or_carrier (walk_arms (the_carrier k) arms) (walk_else (the_carrier k) other) in found Shown k n (carried_by n o) h (carried-shown n o h)
what-shown k n label (logical_if e s) h = let o = walk_stmt (the_carrier k) s in found Shown k n (carried_by n o) h (carried-shown n o h)
what-shown k n label (do_loop l) h = let o = walk_body (the_carrier k) l in found Shown k n (carried_by n o) h (carried-shown n o h)
what-shown k n label (call c es) h = found Shown k n None h tt
what-shown k n label (goto t) h = found Shown k n None h tt
what-shown k n label continue h = found Shown k n None h tt
what-shown k n label return h = found Shown k n None h tt
what-shown k n label (stop t) h = found Shown k n None h tt
what-shown k n label (print es) h = found Shown k n None h tt
what-shown k n label (read es) h = found Shown k n None h tt

carrier-shown : (k : ℕ) (list : StmtTrees) → AreShown list → Maybe Shown (carrier_in k list)
carrier-shown k no_stmts h = tt
carrier-shown k (more_stmts (stmt n label w) others) h =
    one-of Shown k (walk_what (the_carrier k) n label w) (walk_list (the_carrier k) others) (what-shown k n label w h.0) (carrier-shown k others h.1)

-- ---- elaborated statements

few-shown : (id n m : ℕ) → id ≡ n + 1 → n + 1 ≤ m → m ≤ 4096 → Shown id
few-shown id n m e up few = grind (arith, nat_tests)

elaborated-shown : (m : Meant) (h n : ℕ) (list : StmtTrees) → AreNumbered n list → last_in n list ≤ 4096 → AreShown (elaborated_in m h list)
elaborated-shown m h n no_stmts a few = tt
elaborated-shown m h n (more_stmts (stmt id label w) others) a few =
    let s = stmt id label w in
    let x = later-of n s in
    let y = later-in (last_of n s) others in
    (few-shown id n (last_in (last_of n s) others) a.first.number (omega (arith, x, y)) few, elaborated-shown m (hidden_to m h s) (last_of n s) others a.behind few)

-- one of the text is not above the last
abbrev InText : ℕ → ℕ → Type 0
InText last n = Shown n → (1 ≤ n) × (n ≤ last)

no-text : (last x h : ℕ) → x ≡ 4097 + h → InText last x
no-text last x h e v = let t : is_hidden x ≡ true = grind (arith, nat_tests) in let f : true ≡ false = sym t ∙ v in cc

rows-in : (last n h k : ℕ) (xs : List ℕ) → Rows n h xs last k → Each (InText last) xs
rows-in last n h k [] r = tt
rows-in last n h k (x ∷ xs) (inl r) =
    let e = r.0 in
    let up = rows-up (n + 1) h last k xs r.1 in
    record { first = λ v. (omega (arith, e), omega (arith, e, up)); others = rows-in last (n + 1) h k xs r.1 }
rows-in last n h k (x ∷ xs) (inr r) = record { first = no-text last x h r.0; others = rows-in last n (h + 1) k xs r.1 }

-- ---- modules

-- the statement whose line is that of the statement with this number
abbrev pub spot_number : ℕ → ParsedTree → ℕ
spot_number n p = if has_spot n p.places.spots then n else carrier_or n (carrier_in n p.module_read.body)

abbrev pub HasLine : ParsedTree → ℕ → Type 0
HasLine p n = has_spot (spot_number n p) p.places.spots ≡ true

-- the CALLs of a module have lines, whatever its symbols
abbrev pub CallsHaveLines : ParsedTree → Type 0
CallsHaveLines p = (ss : List SymbolTree) → Each (λ (c : Called). HasLine p c.at) (calls_of p ss)

text-spotted : (qs : List Spot) (last : ℕ) → ((n : ℕ) → 1 ≤ n → n ≤ last → has_spot n qs ≡ true) → (o : Option ℕ) → Maybe (InText last) o → Maybe Shown o → Maybe (λ c. has_spot c qs ≡ true) o
text-spotted qs last f None h g = tt
text-spotted qs last f (Some c) h g = let r = h g in f c r.0 r.1

line-there : (k : ℕ) (qs : List Spot) (o : Option ℕ) → IsThere o → Maybe (λ c. has_spot c qs ≡ true) o → has_spot (if has_spot k qs then k else carrier_or k o) qs ≡ true
line-there k qs None h g = absurd h
line-there k qs (Some c) h g = go (has_spot k qs) refl
  where
    go : (b : Bool) → has_spot k qs ≡ b → has_spot (if b then k else c) qs ≡ true
    go true e = e
    go false e = g

built : OfBuilt CallsHaveLines
unfolding build_module written_module elaborated
built closing begun s e i f ss =
    let all = begun ++ s ∷ [] in
    let none = (no-fault (marks_of all) f).2 in
    let g = all-go all 0 no_statements nothing_open i nothing-goes none in
    let p = add_all all no_statements in
    let start : start_of p.around ≡ 0 = ap start_of (all-closed begun s 0 no_statements nothing_open e i nothing-goes none) in
    let counted : p.count ≡ last_in 0 (stmts_of p.list) = g.counts.count ∙ ap (λ n. last_in n (stmts_of p.list)) start in
    let w = (written_module closing all).module_read in
    let well = written_well closing begun s e i f in
    let m = meant_in w in
    let last = last_in 0 w.body in
    let body = elaborated_in m 0 w.body in
    let shown = elaborated-shown m 0 0 w.body well.body well.few in
    let rows = rows-in last 0 0 (hidden_in m 0 w.body) (list_numbers body) (list-rows m 0 0 w.body well.body well.whiles) in
    let spotted : (n : ℕ) → 1 ≤ n → n ≤ last → has_spot n p.spots ≡ true = λ n a b. built-spotted all n a (omega (arith, b, counted)) in
    calls-found ss (HasLine (build_module closing all)) body []
    (λ k h. line-there k p.spots (carrier_in k body) h (text-spotted p.spots last spotted (carrier_in k body) (carrier-so (InText last) k body rows) (carrier-shown k body shown))) tt

pub calls_have_lines : (text : List ℕ) (m : ParsedTree) → IsReadAs text (m ∷ []) → CallsHaveLines m
calls_have_lines text m r = (all_of CallsHaveLines built r.lines (m ∷ []) r.parsed).first
