-- The body of a DO accumulates in its reduction variables where the module runs.
use Rattle.std.proofs.Common.{◌≡◌, inl, inr, ℕ, Bool, true, false, ◌&&◌, ◌||◌, List, map, Option, refl, sym, ap, ◌∙◌, bytes_eq, true≢false}
use Rattle.std.specs.List.{IsDistinct}
use Rattle.std.proofs.lemmas.Bool.{or_parts}
use Rattle.f77_ast.specs.Trees.{ExprTree, ExprTrees, StmtTree, StmtTrees, WhatTree, ArmTrees, ElseTree, LoopTree}
use Rattle.f77_ast.specs.Trees as tree
use Rattle.f77_ast.specs.Hidden.{is_hidden}
use Rattle.f77_ast.specs.Shapes.{walk_stmt, walk_what, walk_body, walk_arms, walk_else, walk_list}
use Rattle.f77_ast.specs.Places.{Place, Places}
use Rattle.f77_ast.specs.declared.symbol.Place.{Place as SymbolPlace}
use Rattle.f77_ast.specs.declared.symbol.Place.TheVariants as place
use Rattle.f77_ast.specs.Symbols.{SymbolTree}
use Rattle.call_graph.specs.Visible.{is_local}
use Rattle.call_graph.specs.declared.graph.Graph.{Graph}
use Rattle.f77_meaning.specs.Areas.{Numbering}
use Rattle.f77_meaning.specs.Modules.{Known, tag_of as tag_of_scalar, names, symbol_names, fixed_place, fixed_maybe}
use Rattle.f77_meaning.specs.Linked.{numbering}
use Rattle.loop_marker.specs.Jumps.{body_of}
use Rattle.loop_marker.specs.Names.{has_name, have_name, step_has_name}
use Rattle.preconditions.specs.transformer_algebra.Laws.{In}
use Rattle.result_lines.specs.declared.reduction.Part.{Part}
use Rattle.result_lines.specs.declared.reduction.Reduction.{Reduction}
use Rattle.reductions.specs.Standings.{both, if_named, in_header, the_standing, standing_in}
use Rattle.reductions.specs.declared.standing.Standing.{Standing}
use Rattle.laws_interleavings.specs.Accumulated.{IsClearName, IsClear, AreClear, StatementAdds, WhatAdds, ArmsAdds, ElseAdds, LoopAdds, ListAdds}
use Rattle.laws_interleavings.specs.Plans.Touched.{AnyNumber, OptionLeaves}
use Rattle.laws_marks.specs.Names.{reduction_named}
use Rattle.laws_marks.specs.Parts.{PartsStand}
use Rattle.laws_marks.specs.Standings.{OthersAreApart}
use Rattle.laws_marks.specs.Units.{IsPassing}
use Rattle.laws_marks.proofs.Standings.Both.{Agrees, both_agree, not_named}
use Rattle.laws_marks.proofs.Standings.Leaves.{Differs, all_differ, step_differs, all_leaves_of, option_leaves_of}
use Rattle.laws_marks.proofs.Standings.Clear.{name_in, reductions_in, units_in, One, clear_name}
use Rattle.laws_marks.proofs.Standings.Adding.{clear, named_so, unnamed, assign_adds}

module _ (ss : List SymbolTree) (at : Places) (ps : List Part) (d : IsDistinct bytes_eq (symbol_names ss)) (locals : (p : Part) → In p ps → IsPassing ss p.cell) (apart : (p : Part) → In p ps → OthersAreApart ss at p.cell)
    (tags : (p : Part) (i : In p ps) → (at p.cell).tag ≡ tag_of_scalar (locals p i).symbol.scalar) where
  -- each of the variables stands there so
  abbrev pub AllAgree : (SymbolTree → Standing) → Type 0
  AllAgree f = (q : One ps) → Agrees q.part.op (f (locals q.part q.is_one).symbol)

  abbrev IsUnnamed : (List ℕ → Bool) → Type 0
  IsUnnamed f = (q : One ps) → f (name_in ss q.part) ≡ false

  each_agree : (f g : SymbolTree → Standing) → AllAgree (λ v. both (f v) (g v)) → AllAgree f × AllAgree g
  each_agree f g h = ((λ q. (both_agree q.part.op (f (locals q.part q.is_one).symbol) (g (locals q.part q.is_one).symbol) (h q)).0), λ q. (both_agree q.part.op (f (locals q.part q.is_one).symbol) (g (locals q.part q.is_one).symbol) (h q)).1)

  none_named : (f : List ℕ → Bool) → AllAgree (λ v. if_named (f v.name)) → IsUnnamed f
  none_named f h q = ap f (named_so ss at ps d locals apart q) ∙ not_named q.part.op (f (locals q.part q.is_one).symbol.name) (h q)

  either_unnamed : (f g : List ℕ → Bool) → IsUnnamed (λ x. f x || g x) → IsUnnamed f × IsUnnamed g
  either_unnamed f g h = ((λ q. (or_parts (f (name_in ss q.part)) (g (name_in ss q.part)) (h q)).0), λ q. (or_parts (f (name_in ss q.part)) (g (name_in ss q.part)) (h q)).1)

  -- ---- expressions

  clear_expr : (e : ExprTree) → IsUnnamed (λ x. has_name x e) → IsClear (units_in ss at ps) (names ss) at e
  clear_expr e h = clear ss at ps d locals apart e (λ q. unnamed ss at ps d locals apart q.part e (h q))

  clear_all : (es : ExprTrees) → IsUnnamed (λ x. have_name x es) → AreClear (reductions_in ss ps) (names ss) at es
  clear_all es h = all_leaves_of (One ps) (λ q. Differs (name_in ss q.part)) _ (λ y k. clear_name ss at ps d locals apart y (λ q. inl (k q))) es (λ q. all_differ (name_in ss q.part) es (h q))

  clear_step : (o : Option ExprTree) → IsUnnamed (λ x. step_has_name x o) → OptionLeaves (IsClearName (units_in ss at ps) (names ss) at) AnyNumber o
  clear_step o h = option_leaves_of (One ps) (λ q. Differs (name_in ss q.part)) _ (λ y k. clear_name ss at ps d locals apart y (λ q. inl (k q))) o (λ q. step_differs (name_in ss q.part) o (h q))

  tested : (e : ExprTree) → AllAgree (λ v. if_named (has_name v.name e)) → IsClear (units_in ss at ps) (names ss) at e
  tested e h = clear_expr e (none_named (λ x. has_name x e) h)

  -- ---- statements

  mutual
    stmt_adds : (s : StmtTree) → AllAgree (λ v. walk_stmt (the_standing ss v) s) → StatementAdds (reductions_in ss ps) (names ss) at s
    stmt_adds (tree.stmt n label w) h = what_adds w n label h

    what_adds : (w : WhatTree) (n : ℕ) (label : Option ℕ) → AllAgree (λ v. walk_what (the_standing ss v) n label w) → WhatAdds (reductions_in ss ps) (names ss) at w
    what_adds (tree.assign a b) n label h = assign_adds ss at ps d locals apart a b h tags
    what_adds (tree.block_if arms other) n label h =
        let z = each_agree (λ v. walk_arms (the_standing ss v) arms) (λ v. walk_else (the_standing ss v) other) h in
        (arms_add arms z.0, else_adds other z.1)
    what_adds (tree.logical_if test s) n label h =
        let z = each_agree (λ v. if_named (has_name v.name test)) (λ v. walk_stmt (the_standing ss v) s) h in
        (tested test z.0, stmt_adds s z.1)
    what_adds (tree.do_loop l) n label h = loop_adds l h
    what_adds (tree.call x es) n label h = clear_all es (either_unnamed (λ y. is_hidden n && bytes_eq y x) (λ y. have_name y es) (none_named (λ y. (is_hidden n && bytes_eq y x) || have_name y es) h)).1
    what_adds (tree.goto j) n label h = tt
    what_adds tree.continue n label h = tt
    what_adds tree.return n label h = tt
    what_adds (tree.stop text) n label h = tt
    what_adds (tree.print es) n label h = clear_all es (none_named (λ y. have_name y es) h)
    what_adds (tree.read es) n label h = clear_all es (none_named (λ y. have_name y es) h)

    arms_add : (arms : ArmTrees) → AllAgree (λ v. walk_arms (the_standing ss v) arms) → ArmsAdds (reductions_in ss ps) (names ss) at arms
    arms_add tree.no_arms h = tt
    arms_add (tree.more_arms (tree.arm test body) rest) h =
        let z = each_agree (λ v. both (if_named (has_name v.name test)) (walk_list (the_standing ss v) body)) (λ v. walk_arms (the_standing ss v) rest) h in
        let y = each_agree (λ v. if_named (has_name v.name test)) (λ v. walk_list (the_standing ss v) body) z.0 in
        ((tested test y.0, list_adds body y.1), arms_add rest z.1)

    else_adds : (o : ElseTree) → AllAgree (λ v. walk_else (the_standing ss v) o) → ElseAdds (reductions_in ss ps) (names ss) at o
    else_adds tree.no_else h = tt
    else_adds (tree.otherwise body) h = list_adds body h

    loop_adds : (l : LoopTree) → AllAgree (λ v. both (in_header v l) (walk_body (the_standing ss v) l)) → LoopAdds (reductions_in ss ps) (names ss) at l
    loop_adds (tree.loop index e1 e2 e3 body) h =
        let z = each_agree (λ v. in_header v (tree.loop index e1 e2 e3 body)) (λ v. walk_list (the_standing ss v) body) h in
        let u = none_named (λ y. bytes_eq y index || (has_name y e1 || (has_name y e2 || step_has_name y e3))) z.0 in
        let a = either_unnamed (λ y. bytes_eq y index) (λ y. has_name y e1 || (has_name y e2 || step_has_name y e3)) u in
        let b = either_unnamed (λ y. has_name y e1) (λ y. has_name y e2 || step_has_name y e3) a.1 in
        let c = either_unnamed (λ y. has_name y e2) (λ y. step_has_name y e3) b.1 in
        (clear_name ss at ps d locals apart index (λ q. inl (a.0 q)), clear_expr e1 b.0, clear_expr e2 c.0, clear_step e3 c.1, list_adds body z.1)

    pub list_adds : (list : StmtTrees) → AllAgree (λ v. standing_in ss v list) → ListAdds (reductions_in ss ps) (names ss) at list
    list_adds tree.no_stmts h = tt
    list_adds (tree.more_stmts s rest) h =
        let z = each_agree (λ v. walk_stmt (the_standing ss v) s) (λ v. walk_list (the_standing ss v) rest) h in
        (stmt_adds s z.0, list_adds rest z.1)

-- ---- a DO at an execution

-- the type of a local
local_tag : (n : Numbering) (m : List ℕ) (ss : List SymbolTree) (s : SymbolTree) (q : SymbolPlace) → is_local q ≡ true → (fixed_place n m ss s q).tag ≡ tag_of_scalar s.scalar
local_tag n m ss s (place.Local g o) h = refl
local_tag n m ss s (place.Dummy k) h = absurd (true≢false (sym h))
local_tag n m ss s (place.Block b o) h = absurd (true≢false (sym h))
local_tag n m ss s (place.Constant c) h = absurd (true≢false (sym h))

-- where no other variable of the module reaches the units of the reduction variables
pub parts_add : (ks : List Known) (g : Graph) (k : Known) (l : LoopTree) (r : Reduction) (at : Places) → PartsStand ks g k l r at → IsDistinct bytes_eq (symbol_names k.symbols) → ((p : Part) → In p r.parts → OthersAreApart k.symbols at p.cell) →
    ListAdds (map (reduction_named k.symbols) r.parts) (names k.symbols) at (body_of l)
parts_add ks g k l r at h d apart = list_adds k.symbols at r.parts d (λ p i. (h.each p i).local) apart tags (body_of l) (λ q. inr (h.each q.part q.is_one).stands)
  where
    tags : (p : Part) (i : In p r.parts) → (at p.cell).tag ≡ tag_of_scalar (h.each p i).local.symbol.scalar
    tags p i =
        let n = numbering ks g in
        let s = (h.each p i).local.symbol in
        ap (λ (q : Place). q.tag) (h.each p i).placed ∙ (ap (λ o. (fixed_maybe n k.read.name k.symbols o).tag) (h.each p i).local.is_symbol ∙ local_tag n k.read.name k.symbols s s.place (h.each p i).local.local)
