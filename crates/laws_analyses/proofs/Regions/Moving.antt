-- What the transformers of statements say of their ends, also of those by a jump, whatever holds before.
use Rattle.std.proofs.Common.{◌≡◌, ℕ, ◌<◌, List, [], ◌∷◌, ◌++◌, ◌&&◌, ◌||◌, Some, Bool, true, false, refl, sym, ap, subst}
use Rattle.affine_systems.specs.declared.row.System.{System}
use Rattle.f77_ast.specs.Trees.{ExprTrees, StmtTree, StmtTrees}
use Rattle.f77_ast.specs.Trees as tree
use Rattle.f77_ast.specs.Store.{Store}
use Rattle.f77_ast.specs.Faults.{Locked}
use Rattle.f77_ast.specs.Writes.{Locks, lock}
use Rattle.f77_ast.specs.Plans.{Flow, Normal, Jump, Returned, Stopped, Plan}
use Rattle.f77_ast.specs.Executions.{run_of}
use Rattle.f77_ast.specs.Places.{Variable}
use Rattle.f77_ast.specs.Lists.{list_plan}
use Rattle.f77_ast.specs.Statements.{statement_plan, parts}
use Rattle.f77_ast.specs.StatementNumbers.{stmt_numbers, list_numbers}
use Rattle.f77_ast.specs.declared.results.At.{At}
use Rattle.affine_forms.specs.Conditions.{no_rows}
use Rattle.affine_forms.specs.Claims.{numbers_of}
use Rattle.preconditions.specs.transformer_algebra.declared.transformer.Transformer.{Transformer}
use Rattle.preconditions.specs.transformer_algebra.Claims.{HoldsAt}
use Rattle.preconditions.proofs.TransformerAlgebra.RuleLaws.{holds_without}
use Rattle.preconditions.specs.transformers.Jumps.{stmt_has, list_has, unstructured}
use Rattle.preconditions.specs.transformers.Lists.{first_at, list_of, list_at}
use Rattle.preconditions.specs.transformers.Statement.{stmt_transformer, each_transformer}
use Rattle.preconditions.specs.transformers.Statement as transformers
use Rattle.preconditions.specs.Statement.{throughout, after_list}
use Rattle.preconditions.specs.Statement as preconditions
use Rattle.laws_analyses.specs.Statements.Good.{Ending}
use Rattle.laws_analyses.specs.Statements.Targets.{lacks_targets}
use Rattle.laws_analyses.specs.Statements.Leads.{stmt_leads, list_leads}
use Rattle.laws_analyses.specs.Statements.Activation.{Fit, Ended}
use Rattle.laws_analyses.specs.Statements.Placed.{Found, Either, Placed, PlacedAll, PlacedEach, PlacedList}
use Rattle.call_graph.specs.CallsIn.{CallAt, Each, stmt_calls, list_calls}
use Rattle.laws_analyses.specs.Statements.Results.{or_no_rows}
use Rattle.laws_analyses.proofs.Statements.Ends.{more}
use Rattle.laws_analyses.proofs.Statements.Loops.{also}
use Rattle.laws_analyses.proofs.Statements.Placing.{FoundP, placed_list}
use Rattle.laws_analyses.proofs.Statements.NumberLaws.{p_list}
use Rattle.laws_analyses.proofs.Statements.Lists.{own_of}
use Rattle.laws_analyses.proofs.Statements.Statements.{stmt_good, list_good}
use Rattle.laws_analyses.specs.Regions.Settings.{Setting, scene, Sound}
use Rattle.laws_analyses.proofs.Regions.Standing.{Distinct, each_first, Nothing, CallEnds}
use Rattle.f77_ast.specs.Shapes.{is_return}

each_of : {T : Type 0} (P Q : T → Type 0) → ((a : T) → P a → Q a) → (xs : List T) → Each P xs → Each Q xs
each_of P Q f [] h = tt
each_of P Q f (x ∷ xs) h = (f x h.0, each_of P Q f xs h.1)

each_nil : {T : Type 0} (P : T → Type 0) (xs : List T) → Each P xs → Each P (xs ++ [])
each_nil P [] h = tt
each_nil P (x ∷ xs) h = (h.0, each_nil P xs h.1)

nil_right : {T : Type 0} (xs : List T) → xs ++ [] ≡ xs
nil_right [] = refl
nil_right (x ∷ xs) = ap (λ y. x ∷ y) (nil_right xs)

or_nothing : (b : Bool) → b ≡ false → (b || false) ≡ false
or_nothing true e = e
or_nothing false e = refl

module _ (k : Setting) (sound : Sound k) (Fits : Locks → (ℕ → Bool) → Type 0) (base : (locked : Locks) (still : ℕ → Bool) → Fits locked still → Fit k.sc.names k.scalar k.at (scene k) locked still) (more_fits : (locked : Locks) (still : ℕ → Bool) (x : List ℕ) (v : ℕ) → k.sc.names x ≡ Variable v → k.scalar x ≡ true → Fits locked still → Fits (lock locked (k.at v).first Locked) (also still (k.at v).first)) where
  -- what a CALL owes
  abbrev covers : List ℕ → ExprTrees → System → Type 0
  covers x es p = CallEnds k Fits x es

  abbrev pub AllEnd : List CallAt → Type 0
  AllEnd cs = Each (λ (c : CallAt). CallEnds k Fits c.callee c.actuals) cs

  -- what holds where the statements of a list begin, whatever holds before it
  before : StmtTrees → Bool → ℕ → System
  before ss whole n = or_no_rows (first_at n (preconditions.at_list whole ss k.m k.does no_rows))

  abbrev results : StmtTrees → Bool → Found
  results ss whole = record { pre = λ n. or_no_rows (first_at n (preconditions.at_list whole ss k.m k.does no_rows)); transformer = k.does }

  placed_here : (ss : StmtTrees) (whole : Bool) → Distinct (list_numbers ss) → Each (λ (a : At Transformer). (0 < a.id) × (k.does a.id ≡ a.value)) (transformers.at_list ss k.m k.cs whole) → list_has (lacks_targets k.scalar) ss ≡ false → AllEnd (list_calls ss) → PlacedList (results ss whole) covers k.m k.cs k.scalar ss whole no_rows
  placed_here ss whole d f t c =
      placed_list (results ss whole) covers k.m k.cs k.scalar ss whole no_rows t f
      (each_of (λ (a : At System). first_at a.id ps ≡ Some a.value) (FoundP (results ss whole) covers k.m k.cs k.scalar) (λ a e. ap or_no_rows e) ps (each_first ps ps (λ n h. refl) (subst Distinct (sym (p_list k.m k.does whole ss no_rows)) d)))
      c
    where
      ps : List (At System)
      ps = preconditions.at_list whole ss k.m k.does no_rows

  -- without what holds after
  less : (t : Transformer) (q : System) (goes : List ℕ → Bool) (ret own : Bool) (still : ℕ → Bool) (s : Store) (f : Flow) (z : Store) → Ended (scene k) t q goes ret own still s f z → Ended (scene k) t no_rows goes ret own still s f z
  less t q goes ret own still s Normal z d = record { does = d.does; after = λ p st. tt; steady = d.steady }
  less t q goes ret own still s (Jump l) z d = d
  less t q goes ret own still s Returned z d = (d.0, d.1, λ e. (let x = d.2 e in record { does = x.does; after = λ p st. tt; steady = x.steady }))
  less t q goes ret own still s Stopped z d = tt

  ends_less : (t : Transformer) (q : System) (goes : List ℕ → Bool) (ret own : Bool) (still : ℕ → Bool) (s : Store) (p : Plan) → Ending p s (Ended (scene k) t q goes ret own still s) → Ending p s (Ended (scene k) t no_rows goes ret own still s)
  ends_less t q goes ret own still s p e i = more (run_of p s i) (λ f z j. Ended (scene k) t q goes ret own still s f z) (λ f z j. Ended (scene k) t no_rows goes ret own still s f z) (λ f z j d. less t q goes ret own still s f z d) (e i)

  module _ (ss : StmtTrees) (whole : Bool) (locked : Locks) (still : ℕ → Bool) (fit : Fits locked still) (d : Distinct (list_numbers ss)) (f : Each (λ (a : At Transformer). (0 < a.id) × (k.does a.id ≡ a.value)) (transformers.at_list ss k.m k.cs whole)) (t : list_has (lacks_targets k.scalar) ss ≡ false) (c : AllEnd (list_calls ss)) where
    pub list_moves : (z : Store) → Ending (list_plan k.sc.turns (parts ss k.sc k.at locked)) z (Ended (scene k) (list_of whole ss (each_transformer ss k.m k.cs whole)) no_rows (λ ls. list_leads ss ls) (list_has is_return ss) whole still z)
    list_moves z =
        ends_less (list_of whole ss (each_transformer ss k.m k.cs whole)) (after_list whole ss k.m k.does no_rows) (λ ls. list_leads ss ls) (list_has is_return ss) whole still z (list_plan k.sc.turns (parts ss k.sc k.at locked))
        (list_good Nothing k.m k.cs (results ss whole) covers k.scalar k.sc k.at k.far k.place sound.names_fit (λ j s q h e. tt)
        Fits base more_fits
        sound.calls_track (λ x es n l st y P w hp cov. cov n l st y P w hp)
        whole ss locked still fit no_rows z (λ p st. tt) (placed_here ss whole d f t c)).ending

    one_moves : (s : StmtTree) → (last : Bool) (P : System) (z : Store) → HoldsAt (scene k) P (numbers_of z) → Placed (results ss whole) covers k.m k.cs k.scalar s last P → Ending (statement_plan s k.sc k.at locked) z (Ended (scene k) (stmt_transformer s k.m k.cs last) no_rows (λ ls. stmt_leads s ls) (stmt_has is_return s) (own_of last s) still z)
    one_moves s last P z hp pl =
        ends_less (stmt_transformer s k.m k.cs last) (preconditions.after s k.m k.does P) (λ ls. stmt_leads s ls) (stmt_has is_return s) (own_of last s) still z (statement_plan s k.sc k.at locked)
        (stmt_good Nothing k.m k.cs (results ss whole) covers k.scalar k.sc k.at k.far k.place sound.names_fit (λ j x q h e. tt)
        Fits base more_fits
        sound.calls_track (λ x es n l st y Q w hq cov. cov n l st y Q w hq)
        s last locked still fit P z hp pl).ending

  -- of one that is the only one of its list
  alone : (s : StmtTree) (last : Bool) (locked : Locks) (still : ℕ → Bool) → Fits locked still → Distinct (stmt_numbers s) → Each (λ (a : At Transformer). (0 < a.id) × (k.does a.id ≡ a.value)) (transformers.at_stmt s k.m k.cs (last && true)) → stmt_has (lacks_targets k.scalar) s ≡ false → AllEnd (stmt_calls s) → (z : Store) → Ending (statement_plan s k.sc k.at locked) z (Ended (scene k) (stmt_transformer s k.m k.cs (last && true)) no_rows (λ ls. stmt_leads s ls) (stmt_has is_return s) (own_of (last && true) s) still z)
  alone s last locked still fit d f t c z = go (unstructured last ss) pl
    where
      ss : StmtTrees
      ss = tree.more_stmts s tree.no_stmts

      d' : Distinct (list_numbers (tree.more_stmts s tree.no_stmts))
      d' = subst Distinct (sym (nil_right (stmt_numbers s))) d

      f' : Each (λ (a : At Transformer). (0 < a.id) × (k.does a.id ≡ a.value)) (transformers.at_list (tree.more_stmts s tree.no_stmts) k.m k.cs last)
      f' = each_nil (λ (a : At Transformer). (0 < a.id) × (k.does a.id ≡ a.value)) (transformers.at_stmt s k.m k.cs (last && true)) f

      t' : list_has (lacks_targets k.scalar) (tree.more_stmts s tree.no_stmts) ≡ false
      t' = or_nothing (stmt_has (lacks_targets k.scalar) s) t

      c' : AllEnd (list_calls (tree.more_stmts s tree.no_stmts))
      c' = each_nil (λ (d : CallAt). CallEnds k Fits d.callee d.actuals) (stmt_calls s) c

      pl : PlacedList (results (tree.more_stmts s tree.no_stmts) last) covers k.m k.cs k.scalar (tree.more_stmts s tree.no_stmts) last no_rows
      pl = placed_here (tree.more_stmts s tree.no_stmts) last d' f' t' c'

      through : System
      through = throughout last (tree.more_stmts s tree.no_stmts) k.does no_rows

      through_holds : HoldsAt (scene k) (throughout last (tree.more_stmts s tree.no_stmts) k.does no_rows) (numbers_of z)
      through_holds = holds_without (scene k) (list_at k.does last (tree.more_stmts s tree.no_stmts)).cells [] no_rows (numbers_of z) (numbers_of z) (λ p st. tt) (record { cells = λ g r h. refl; foreign = λ u r h. refl })

      go : (b : Bool) → Either b (PlacedAll (results (tree.more_stmts s tree.no_stmts) last) covers k.m k.cs k.scalar (tree.more_stmts s tree.no_stmts) last (throughout last (tree.more_stmts s tree.no_stmts) k.does no_rows)) (PlacedEach (results (tree.more_stmts s tree.no_stmts) last) covers k.m k.cs k.scalar (tree.more_stmts s tree.no_stmts) last no_rows) → Ending (statement_plan s k.sc k.at locked) z (Ended (scene k) (stmt_transformer s k.m k.cs (last && true)) no_rows (λ ls. stmt_leads s ls) (stmt_has is_return s) (own_of (last && true) s) still z)
      go true p = one_moves (tree.more_stmts s tree.no_stmts) last locked still fit d' f' t' c' s (last && true) (throughout last (tree.more_stmts s tree.no_stmts) k.does no_rows) z through_holds p.0
      go false p = one_moves (tree.more_stmts s tree.no_stmts) last locked still fit d' f' t' c' s (last && true) no_rows z (λ q st. tt) p.0

  pub stmt_moves : (s : StmtTree) (last : Bool) (locked : Locks) (still : ℕ → Bool) → Fits locked still → Distinct (stmt_numbers s) → Each (λ (a : At Transformer). (0 < a.id) × (k.does a.id ≡ a.value)) (transformers.at_stmt s k.m k.cs last) → stmt_has (lacks_targets k.scalar) s ≡ false → AllEnd (stmt_calls s) → (z : Store) → Ending (statement_plan s k.sc k.at locked) z (Ended (scene k) (stmt_transformer s k.m k.cs last) no_rows (λ ls. stmt_leads s ls) (stmt_has is_return s) (own_of last s) still z)
  stmt_moves s true locked still fit d f t c z = alone s true locked still fit d f t c z
  stmt_moves s false locked still fit d f t c z = alone s false locked still fit d f t c z
