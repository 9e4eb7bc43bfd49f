-- What comes after each statement of a list.
use Rattle.std.proofs.Common.{◌≡◌, ℕ, ◌+◌, ◌<◌, ◌≤◌, Bool, true, false, List, [], ◌∷◌, ◌++◌, All, arith, subst, length, take, drop, ◌-◌, get_or, reverse, drop_of_length-le, append_assoc, append-nil, refl, ap, sym, ◌∙◌}
use Rattle.std.proofs.lemmas.List.{reverse-append, length-drop, take_all}
use Rattle.std.proofs.lemmas.List.Elements.{All-nil, All-push, All-pop}
use Rattle.f77_ast.specs.declared.stmt.Stmt.{Stmt}
use Rattle.f77_ast.specs.Trees.{StmtTrees}
use Rattle.f77_ast.specs.Trees as tree
use Rattle.f77_ast.specs.PlainStmt.{stmt_tree, stmt_trees}
use Rattle.f77_ast.proofs.PlainlyStmt.{list_calls, stmt_trees-drop}
use Rattle.f77_ast.specs.declared.results.At.{At}
use Rattle.in_out_regions.specs.region_sets.declared.region.Region.{Region}
use Rattle.in_out_regions.specs.region_sets.Sets.{unite_all}
use Rattle.in_out_regions.specs.region_sets.Lists.{all_composed, set_at}
use Rattle.in_out_regions.specs.Lists.{before_rest}
use Rattle.out_regions.specs.declared.rest.Rest.{Rest}
use Rattle.out_regions.specs.Known.{KnownTree}
use Rattle.out_regions.specs.Contexts.{RestFits}
use Rattle.out_regions.specs.Leaving.{leaves}
use Rattle.out_regions.specs.Lists.{writes_at, rest_of, rest_before, rests_behind, rest_out}
use Rattle.out_regions.specs.Statement.{at_first, at_rest}

module _ (k : KnownTree) (whole : Bool) (ss : List Stmt) (i : ℕ) (d : Stmt) (l : i < length ss) where
  abbrev tail : StmtTrees
  tail = stmt_trees (drop (i + 1) ss)

  -- from a statement on
  pub rest-step : (after new : Rest) → after ≡ rest_of k whole tail → new ≡ rest_before k whole (stmt_trees (drop i ss)) (get_or ss i d).id after → new ≡ rest_of k whole (stmt_trees (drop i ss))
  rest-step after new e h =
      let x = get_or ss i d in
      let first : rest_before k whole (stmt_trees (drop i ss)) x.id (rest_of k whole tail) ≡ rest_of k whole (tree.more_stmts (stmt_tree x) tail) =
      ap (λ (ts : StmtTrees). rest_before k whole ts x.id (rest_of k whole tail)) (stmt_trees-drop ss i d l) in
      h ∙ (ap (rest_before k whole (stmt_trees (drop i ss)) x.id) e ∙ (first ∙ ap (rest_of k whole) (sym (stmt_trees-drop ss i d l))))

  pub behind-step : (current : Rest) (rests new : List Rest) → current ≡ rest_of k whole tail → reverse rests ≡ rests_behind k whole tail → new ≡ rests ++ current ∷ [] → reverse new ≡ rests_behind k whole (stmt_trees (drop i ss))
  behind-step current rests new e f h =
      ap reverse h ∙ (reverse-append rests (current ∷ []) ∙ ((λ t. e t ∷ f t) ∙ ap (rests_behind k whole) (sym (stmt_trees-drop ss i d l))))

  -- the last of them is taken
  taken : (rests left : List Rest) (r : Rest) → reverse rests ≡ rests_behind k whole (stmt_trees (drop i ss)) → rests ≡ left ++ r ∷ [] → (r ∷ reverse left) ≡ (rest_of k whole tail ∷ rests_behind k whole tail)
  taken rests left r e h = sym (reverse-append left (r ∷ [])) ∙ (sym (ap reverse h) ∙ (e ∙ ap (rests_behind k whole) (stmt_trees-drop ss i d l)))

  pub taken-rest : (rests left : List Rest) (r : Rest) → reverse rests ≡ rests_behind k whole (stmt_trees (drop i ss)) → rests ≡ left ++ r ∷ [] → r ≡ rest_of k whole tail
  taken-rest rests left r e h = let t = taken rests left r e h in cc

  pub taken-left : (rests left : List Rest) (r : Rest) → reverse rests ≡ rests_behind k whole (stmt_trees (drop i ss)) → rests ≡ left ++ r ∷ [] → reverse left ≡ rests_behind k whole tail
  taken-left rests left r e h = let t = taken rests left r e h in cc

  -- one statement more
  pub at-step : (out next : List Region) (r : Rest) (at new all : List (At (List Region))) → r ≡ rest_of k whole tail → next ≡ rest_out k (get_or ss i d).id r out → new ≡ at ++ at_first whole (stmt_tree (get_or ss i d)) k r out →
      at ++ at_rest whole (stmt_trees (drop i ss)) k out ≡ all → new ++ at_rest whole tail k next ≡ all
  at-step out next r at new all e f g h =
      let x = get_or ss i d in
      let q = rest_of k whole tail in
      let first = at_first whole (stmt_tree x) k q out in
      (λ t. (g ∙ ap (λ (y : Rest). at ++ at_first whole (stmt_tree x) k y out) e) t ++ at_rest whole tail k ((f ∙ ap (λ (y : Rest). rest_out k x.id y out) e) t))
      ∙ (append_assoc at first (at_rest whole tail k (rest_out k x.id q out))
      ∙ (ap (λ (ts : StmtTrees). at ++ at_rest whole ts k out) (sym (stmt_trees-drop ss i d l)) ∙ h))

pub rest-end : (k : KnownTree) (whole : Bool) (ss : List Stmt) (i : ℕ) (r : Rest) → length ss ≤ i → r ≡ rest_of k whole tree.no_stmts → r ≡ rest_of k whole (stmt_trees (drop i ss))
rest-end k whole ss i r e h = h ∙ sym (ap (λ (zs : List Stmt). rest_of k whole (stmt_trees zs)) (drop_of_length-le ss e))

pub behind-end : (k : KnownTree) (whole : Bool) (ss : List Stmt) (i : ℕ) (rs : List Rest) → length ss ≤ i → rs ≡ [] → reverse rs ≡ rests_behind k whole (stmt_trees (drop i ss))
behind-end k whole ss i rs e h = ap reverse h ∙ sym (ap (λ (zs : List Stmt). rests_behind k whole (stmt_trees zs)) (drop_of_length-le ss e))

-- all from a place on
pub from-here : (ss : List Stmt) (i : ℕ) → take (length ss - i) (drop i ss) ≡ drop i ss
from-here ss i = take_all (length ss - i) (drop i ss) (omega (arith, length-drop i ss))

-- none of them
pub none-fit : (rs : List Rest) → rs ≡ [] → All RestFits rs
none-fit rs e = subst (All RestFits) (sym e) (All-nil RestFits)

-- after the last statement
pub nothing-left : (k : KnownTree) (whole : Bool) (r : Rest) → r.ins ≡ [] → r.writes ≡ [] → r.leaves ≡ false → r ≡ rest_of k whole tree.no_stmts
nothing-left k true r a b c = λ t. record { ins = a t; writes = b t; leaves = c t }
nothing-left k false r a b c = λ t. record { ins = a t; writes = b t; leaves = c t }

pub ruleset nothing_after = (nothing-left)

pub ruleset rest_steps = (rest-step, behind-step, rest-end, behind-end, All-push, append_assoc, append-nil)

pub ruleset rest_calls = (list_calls, taken-rest, taken-left, at-step, All-pop, append_assoc, append-nil)
