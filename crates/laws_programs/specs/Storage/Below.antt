-- What modules reach by calls: no module reaches itself so, and the COMMON of what it calls is its own (ANSI X3.9-1978 §15.6.2, §8.3).
use Rattle.std.specs.Prelude.{◌≡◌, ℕ, true, false, List, length, slice_get, Some}
use Rattle.f77_ast.specs.DeclTrees.{ParsedTree}
use Rattle.f77_ast.specs.Symbols.{SymbolTree}
use Rattle.call_graph.specs.declared.graph.Graph.{Graph}
use Rattle.call_graph.specs.declared.calls.Called.{Called}
use Rattle.call_graph.specs.Calls.{calls_of}
use Rattle.f77_meaning.specs.Modules.{known_of}
use Rattle.f77_meaning.specs.Linked.{reaches, is_common}
use Rattle.laws_programs.specs.Storage.Programs.{IsLinked, IsModule}
use Rattle.laws_programs.specs.Storage.Calls.{EachCall}

-- a module is another, or reaches it by calls
abbrev pub leads_to : List ParsedTree → List (List SymbolTree) → Graph → List ℕ → List ℕ → Type 0
leads_to ps sss g x y = reaches (length (known_of ps sss)) g.edges x y ≡ true

-- a module has a CALL of this name
pub record HasCall (p : ParsedTree) (ss : List SymbolTree) (x : List ℕ) : Type 0 where
  pub at : ℕ
  pub call : Called
  pub is_call : slice_get (calls_of p ss) at ≡ Some call
  pub is_named : call.callee ≡ x

-- so has each CALL of its statements
abbrev pub CallsAreListed : Type 0
CallsAreListed = (p : ParsedTree) (ss : List SymbolTree) → EachCall (λ n x es. HasCall p ss x) p.module_read.body

-- what is called never leads back
abbrev pub CallGraphIsAcyclic : Type 0
CallGraphIsAcyclic = (ps : List ParsedTree) (sss : List (List SymbolTree)) (g : Graph) → IsLinked ps sss g → (i : ℕ) (p : ParsedTree) (ss : List SymbolTree) → IsModule ps sss i p ss → (x : List ℕ) → HasCall p ss x →
    leads_to ps sss g x p.module_read.name → ⊥

-- a module reaches what those that it calls reach
abbrev pub ReachabilityIsTransitive : Type 0
ReachabilityIsTransitive = (ps : List ParsedTree) (sss : List (List SymbolTree)) (g : Graph) → IsLinked ps sss g → (i : ℕ) (p : ParsedTree) (ss : List SymbolTree) → IsModule ps sss i p ss → (x y : List ℕ) → HasCall p ss x →
    leads_to ps sss g x y → leads_to ps sss g p.module_read.name y

-- the units of COMMON of what is called are units of COMMON of the caller
abbrev pub CommonIsShared : Type 0
CommonIsShared = (ps : List ParsedTree) (sss : List (List SymbolTree)) (g : Graph) → IsLinked ps sss g → (i : ℕ) (p : ParsedTree) (ss : List SymbolTree) → IsModule ps sss i p ss → (x : List ℕ) (u : ℕ) → HasCall p ss x →
    is_common (known_of ps sss) g x u ≡ true → is_common (known_of ps sss) g p.module_read.name u ≡ true
