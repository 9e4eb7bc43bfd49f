-- Which loops of a module are parallel, and the first obstacle of each other loop.
use Rattle.std.specs.Prelude.{ℕ, Bool, true, false, not, ◌&&◌, ◌||◌, if◌then◌else◌, List, [], ◌∷◌, ◌++◌, Option, Some, None, is_some}
use Rattle.affine_systems.specs.declared.row.System.{System}
use Rattle.f77_ast.specs.Trees.{StmtTrees, LoopTree}
use Rattle.f77_ast.specs.DeclTrees.{ModuleTree}
use Rattle.f77_ast.specs.Shapes.{Walk, walk_list}
use Rattle.f77_ast.specs.Symbols.{SymbolTree}
use Rattle.f77_ast.specs.Shared.{symbol_at}
use Rattle.f77_ast.specs.declared.variable.Variable.{Variable}
use Rattle.f77_ast.specs.declared.variable.Variable.TheVariants as variable
use Rattle.f77_ast.specs.declared.effect_set.EffectSet.{EffectSet}
use Rattle.f77_ast.specs.declared.results.At.{At}
use Rattle.f77_ast.specs.Variables.{union, same_variable}
use Rattle.f77_ast.specs.declared.marks.Kinds.{Kinds}
use Rattle.f77_ast.specs.declared.marks.Kinds.TheVariants.{WriteRead, ReadWrite, WriteWrite}
use Rattle.f77_ast.specs.declared.marks.Private.{Private}
use Rattle.f77_ast.specs.declared.marks.Private.TheVariants.{Yes, Name, Carried, Live}
use Rattle.f77_ast.specs.declared.marks.Reason.{Reason}
use Rattle.f77_ast.specs.declared.marks.Reason.TheVariants.{Jump, InputOutput, Step, Index, Carries}
use Rattle.f77_ast.specs.declared.marks.Mark.{Mark}
use Rattle.f77_ast.specs.declared.marks.Mark.TheVariants.{Parallel, Serial}
use Rattle.dependence_test.specs.declared.body.LoopBody.{LoopBody}
use Rattle.dependence_test.specs.Conflicts.{kept_system}
use Rattle.privatizer.specs.Functions.{is_function, is_one_of, own_functions}
use Rattle.privatizer.specs.Names.{may_copy}
use Rattle.privatizer.specs.Private.{private_in}
use Rattle.privatizer.specs.Uses.{Uses}
use Rattle.loop_marker.specs.declared.verdict.Verdict.{Verdict}
use Rattle.loop_marker.specs.declared.verdict.Verdict.TheVariants.{Free, Copied, Bad}
use Rattle.loop_marker.specs.Names.{bounds_have_name}
use Rattle.loop_marker.specs.Jumps.{may_jump, may_have_io, body_of}
use Rattle.loop_marker.specs.Variables.{inner_in, written_in, is_among, is_of_some}

-- what is known of a module: its tree, its symbols and their names, the effects of its statements; of a DO by its number, what is known of its iterations and of the regions around it
pub record Knowledge : Type 0 where
  pub tree : ModuleTree
  pub symbols : List SymbolTree
  pub names : List (List ℕ)
  pub effects : List (At EffectSet)
  pub body : LoopTree → LoopBody
  pub uses : ℕ → LoopTree → Uses

-- ---- names

-- the name of the variable stands in the first, the last or the step of the DO, which OpenMP evaluates where copies have no value yet
abbrev pub symbol_in_bounds : LoopTree → Option SymbolTree → Bool
symbol_in_bounds l None = false
symbol_in_bounds l (Some s) = bounds_have_name s.name l

abbrev pub is_in_bounds : List SymbolTree → LoopTree → Variable → Bool
is_in_bounds ss l (variable.Own n) = symbol_in_bounds l (symbol_at ss n)
is_in_bounds ss l (variable.Block x) = false
is_in_bounds ss l (variable.Saved x y) = false

-- the name is that of a function of which the module takes a value; and it is saved, or the body of the DO takes none
abbrev pub is_other_name : ModuleTree → LoopTree → List ℕ → Bool
is_other_name m l x = is_function m x && not (is_one_of (own_functions m (body_of l)) x)

abbrev pub symbol_is_other : ModuleTree → LoopTree → Option SymbolTree → Bool
symbol_is_other m l None = false
symbol_is_other m l (Some s) = is_other_name m l s.name

abbrev pub is_other_result : ModuleTree → List SymbolTree → LoopTree → Variable → Bool
is_other_result m ss l (variable.Own n) = symbol_is_other m l (symbol_at ss n)
is_other_result m ss l (variable.Block x) = false
is_other_result m ss l (variable.Saved x y) = false

-- ---- the variable of the DO

-- each iteration may have its own, and nothing needs it afterwards
abbrev pub index_is_bad : Knowledge → LoopBody → Uses → LoopTree → Bool
index_is_bad k b u l =
    not (may_copy k.tree k.symbols (variable.Own b.index)) || (is_of_some (variable.Own b.index) u.outs || is_in_bounds k.symbols l (variable.Own b.index))

-- ---- other variables

abbrev pub with_kind : Bool → Kinds → List Kinds → List Kinds
with_kind kept k ks = if kept then k ∷ ks else ks

abbrev pub keeps : List SymbolTree → LoopBody → Variable → Kinds → Bool
keeps ss b v k = is_some (kept_system ss b v k)

-- the kinds of dependence that are not refuted
abbrev pub kept_kinds : List SymbolTree → LoopBody → Variable → List Kinds
kept_kinds ss b v =
    with_kind (keeps ss b v WriteRead) WriteRead (with_kind (keeps ss b v ReadWrite) ReadWrite (with_kind (keeps ss b v WriteWrite) WriteWrite []))

-- the variable of a DO in the body, or the result of a function, depends on itself: each iteration has its own, whatever the directive says
abbrev pub or_of_index : Bool → List Kinds → List Kinds
or_of_index inner [] = if inner then WriteWrite ∷ [] else []
or_of_index inner (k ∷ ks) = k ∷ ks

abbrev pub kinds_of : List SymbolTree → LoopBody → List Variable → Variable → List Kinds
kinds_of ss b inner v = or_of_index (is_among inner v) (kept_kinds ss b v)

-- whether each iteration may have its own copy
abbrev pub unless_named : Bool → Private → Private
unless_named named Yes = if named then Name else Yes
unless_named named Name = Name
unless_named named Carried = Carried
unless_named named Live = Live

abbrev pub copy_answer : Knowledge → Uses → LoopTree → Variable → Private
copy_answer k u l v = unless_named (is_in_bounds k.symbols l v || is_other_result k.tree k.symbols l v) (private_in k.tree k.symbols u v)

abbrev pub with_own : List ℕ → Variable → List ℕ
with_own ns (variable.Own n) = ns ++ n ∷ []
with_own ns (variable.Block x) = ns
with_own ns (variable.Saved x y) = ns

-- ---- the mark

abbrev pub by_answer : List Kinds → Private → Verdict
by_answer ks Yes = Copied
by_answer ks Name = Bad ks Name
by_answer ks Carried = Bad ks Carried
by_answer ks Live = Bad ks Live

abbrev pub by_kinds : List Kinds → Private → Verdict
by_kinds [] p = Free
by_kinds (k ∷ ks) p = by_answer (k ∷ ks) p

abbrev pub verdict_of : Knowledge → LoopBody → Uses → LoopTree → List Variable → Variable → Verdict
verdict_of k b u l inner v =
    if same_variable v (variable.Own b.index) then Free else by_kinds (kinds_of k.symbols b inner v) (copy_answer k u l v)

-- an obstacle, or what comes of the other variables where nothing stands against it, or where it is copied
abbrev pub by_verdict : Variable → Mark → Mark → Verdict → Mark
by_verdict v next copied Free = next
by_verdict v next copied Copied = copied
by_verdict v next copied (Bad ks p) = Serial (Carries v ks p)

-- `ns` has the numbers of the variables of which iterations have copies, so far
abbrev pub marked : (Variable → Verdict) → List ℕ → List Variable → Mark
marked f ns [] = Parallel ns
marked f ns (v ∷ vs) = by_verdict v (marked f ns vs) (marked f (with_own ns v) vs) (f v)

-- of a DO that nothing else stands against: the variables that the body writes, and those of which each iteration has its own
abbrev pub by_variables : Knowledge → LoopBody → Uses → LoopTree → List Variable → Mark
by_variables k b u l inner = marked (verdict_of k b u l inner) [] (union inner (written_in b.regions))

abbrev pub has_step : LoopBody → Bool
has_step b = is_some b.step

-- the first obstacle, in this order: behind each function what is looked at after it
abbrev pub by_index : Knowledge → LoopBody → Uses → LoopTree → List Variable → Mark
by_index k b u l inner = if index_is_bad k b u l then Serial Index else by_variables k b u l inner

abbrev pub by_step : Knowledge → LoopBody → Uses → LoopTree → List Variable → Mark
by_step k b u l inner = if has_step b then by_index k b u l inner else Serial Step

abbrev pub by_io : Knowledge → ℕ → LoopTree → Mark
by_io k n l = if may_have_io k.effects (body_of l) then Serial InputOutput else by_step k (k.body l) (k.uses n l) l (inner_in k.names k.tree l)

abbrev pub mark_of : Knowledge → ℕ → Option ℕ → LoopTree → Mark
mark_of k n label l = if may_jump k.tree.body k.effects label l then Serial Jump else by_io k n l

-- ---- a module

abbrev pub the_marks : (ℕ → Option ℕ → LoopTree → Mark) → Walk (List (At Mark))
the_marks f = record {
  of_leaf = λ n label w. [];
  of_inner = λ n label test s. s;
  of_body = λ n label l body. record { id = n; value = f n label l } ∷ body;
  of_arms = λ n label arms other. arms ++ other;
  of_arm = λ test body rest. body ++ rest;
  of_no_arms = [];
  of_else = λ body. body;
  of_no_else = [];
  of_more = λ s rest. s ++ rest;
  of_end = [];
}

-- each DO with its mark, in the order of the text
abbrev pub marks_of : Knowledge → List (At Mark)
marks_of k = walk_list (the_marks (mark_of k)) k.tree.body
