-- The regions of CALLs: of places of the caller alone, and of variables with its names.
use Rattle.std.proofs.Common.{◌≡◌, ℕ, zero, suc, ◌-◌, Bool, true, false, List, [], ◌∷◌, ◌++◌, length, Option, Some, None}
use Rattle.std.specs.Prelude.{if◌then◌else◌, nat_eq, slice_get, option_to_list, option_map}
use Rattle.std.specs.List.{AllByRecursion}
use Rattle.f77_ast.specs.Trees.{ExprTree, ExprTrees}
use Rattle.f77_ast.specs.Trees as tree
use Rattle.f77_ast.specs.declared.variable.Unit.{Unit as BlockUnit}
use Rattle.f77_ast.specs.Symbols.{SymbolTree}
use Rattle.f77_ast.specs.Shared.{symbol_at}
use Rattle.f77_ast.specs.Summaries.{SummaryTree}
use Rattle.preconditions.specs.call_translation.Scopes.{ScopeTree}
use Rattle.in_out_regions.specs.region_sets.declared.region.Region.{Region}
use Rattle.in_out_regions.specs.call_equations.declared.link.Link.{Link}
use Rattle.in_out_regions.specs.call_equations.Sides.{SidesTree}
use Rattle.in_out_regions.specs.call_equations.Links.{link_of}
use Rattle.in_out_regions.specs.region_translation.Pieces.{piece_in_caller}
use Rattle.in_out_regions.specs.region_translation.Caller.{by_link, to_caller}
use Rattle.in_out_regions.specs.array_regions.Calls.{Callees, actual_reads, actuals_reads, sides, all_in_caller, summary_in_caller, call_set}
use Rattle.laws_lines.proofs.SystemVars.{IsNeat}
use Rattle.laws_lines.proofs.StatementVars.{Scope}
use Rattle.laws_lines.specs.Regions.Names.{SymbolNamed}
use Rattle.laws_lines.specs.Regions.Places.{IsPlaceOf, AreFew}
use Rattle.laws_lines.proofs.Regions.RegionVars.{few_shadow, IsFine, AreFine, united_fine}
use Rattle.laws_lines.proofs.Regions.AccessVars.{IsNamedBy, FewBounds, Fine, reads_fine, all_fine}
use Rattle.laws_lines.proofs.Regions.CalleeVars.{piece_neat}
use Rattle.laws_lines.proofs.Regions.LinkVars.{MaybeNamed, MaybeLink, link_ok}
use Rattle.fx_lists.proofs.Lists.{each_append as both_all}
use Rattle.fx_lists.proofs.Every.{Anything}

got_named : (Name : List ℕ → Type 0) (ss : List SymbolTree) (k : ℕ) → AllByRecursion (SymbolNamed Name) ss → MaybeNamed Name (slice_get ss k)
got_named Name [] k h = tt
got_named Name (s ∷ ss) zero h = h.0
got_named Name (s ∷ ss) (suc k) h = got_named Name ss k h.1

pub numbered_named : (Name : List ℕ → Type 0) (ss : List SymbolTree) → AllByRecursion (SymbolNamed Name) ss → (n : ℕ) → MaybeNamed Name (symbol_at ss n)
numbered_named Name ss h n = go (nat_eq n 0)
  where
    go : (b : Bool) → MaybeNamed Name (if b then None else slice_get ss (n - 1))
    go true = tt
    go false = got_named Name ss (n - 1) h

-- ---- summaries

-- of the module of this name: whatever symbols it has, its regions have one to four systems each, on subscripts and cells
pub record SummaryFine (Name : List ℕ → Type 0) (x : List ℕ) (s : SummaryTree (List Region)) : Type 0 where
  pub title : Name x
  pub table : AllByRecursion (SymbolNamed Name) s.symbols
  pub names : List (List ℕ)
  pub value : AreFine (IsNamedBy Name names) Anything s.value

abbrev pub MaybeFine : (List ℕ → Type 0) → List ℕ → Option (SummaryTree (List Region)) → Type 0
MaybeFine Name x None = Unit {0}
MaybeFine Name x (Some s) = SummaryFine Name x s

abbrev pub CalleesFine : (List ℕ → Type 0) → Callees → Type 0
CalleesFine Name cs = (x : List ℕ) → MaybeFine Name x (cs x)

-- ---- in the terms of the caller

module _ (Name : List ℕ → Type 0) (ok : ℕ → Type 0) (m : ScopeTree) (a : Scope ok m) (few : FewBounds m.symbols) (long : length m.symbols ≡ length m.names) where
  abbrev F : List Region → Type 0
  F rs = Fine Name ok m a few rs

  abbrev join : (xs ys : List Region) → F xs → F ys → F (xs ++ ys)
  join xs ys h k = both_all (IsFine (IsNamedBy Name m.names) ok) xs ys h k

  actual_fine : (e : ExprTree) → F (actual_reads e m)
  actual_fine (tree.int n) = reads_fine Name ok m a few (tree.int n)
  actual_fine (tree.log b) = reads_fine Name ok m a few (tree.log b)
  actual_fine (tree.name x) = tt
  actual_fine (tree.element x es) = all_fine Name ok m a few es
  actual_fine (tree.paren e) = reads_fine Name ok m a few (tree.paren e)
  actual_fine (tree.unary o e) = reads_fine Name ok m a few (tree.unary o e)
  actual_fine (tree.binary o e f) = reads_fine Name ok m a few (tree.binary o e f)
  actual_fine (tree.chars x) = reads_fine Name ok m a few (tree.chars x)

  pub actuals_fine : (es : ExprTrees) → F (actuals_reads es m)
  actuals_fine tree.no_exprs = tt
  actuals_fine (tree.more_exprs e es) = join (actual_reads e m) (actuals_reads es m) (actual_fine e) (actuals_fine es)

  module _ (changed : List ℕ) (untracked : List BlockUnit) where
    module _ (x : List ℕ) (es : ExprTrees) (s : SummaryTree (List Region)) (fine : SummaryFine Name x s) where
      abbrev c : SidesTree
      c = sides m changed untracked x es s.symbols

      maybe_fine : (r : Region) (o : Option Link) → MaybeLink Name ok c a few long o → AreFew (IsNeat (IsPlaceOf Anything)) r.pieces → F (option_to_list (option_map (by_link c r) o))
      maybe_fine r None h k = tt
      maybe_fine r (Some l) h k = ((h.named, few_shadow (IsNeat (IsPlaceOf Anything)) (IsNeat (IsPlaceOf ok)) (piece_in_caller c l) (piece_neat ok c a.allows l h.flat h.rows) r.pieces k), tt)

      pub all_fine_in : (rs : List Region) → AreFine (IsNamedBy Name fine.names) Anything rs → F (all_in_caller c rs)
      all_fine_in [] h = tt
      all_fine_in (r ∷ rs) h =
          join (option_to_list (to_caller c r)) (all_in_caller c rs)
          (maybe_fine r (link_of c r.variable) (link_ok Name ok c a few long fine.title (numbered_named Name s.symbols fine.table) fine.names r.variable h.0.0) h.0.1)
          (all_fine_in rs h.1)

    summary_fine : (x : List ℕ) (es : ExprTrees) (o : Option (SummaryTree (List Region))) → MaybeFine Name x o → F (summary_in_caller m changed untracked x es o)
    summary_fine x es None h = tt
    summary_fine x es (Some s) h = all_fine_in x es s h s.value h.value

    pub call_fine : (cs : Callees) → CalleesFine Name cs → (x : List ℕ) (es : ExprTrees) → F (call_set m changed untracked cs x es)
    call_fine cs h x es =
        let rs = summary_in_caller m changed untracked x es (cs x) in
        united_fine (IsNamedBy Name m.names) ok (actuals_reads es m ++ rs) (join (actuals_reads es m) rs (actuals_fine es) (summary_fine x es (cs x) (h x)))
