-- Steps of the loops over statements, regions and rows, and what is handed on may be handed on.
use Rattle.std.proofs.Common.{◌≡◌, ℕ, Bool, true, false, ◌+◌, ◌<◌, ◌&&◌, List, [], ◌∷◌, ◌++◌, length, get_or, drop, drop-cons, add-one, append_assoc, append-nil, ap, sym, subst, ◌∙◌, Option, Some}
use Rattle.std.specs.Prelude.{IfSome, if◌then◌else◌}
use Rattle.f77_ast.specs.declared.expr.Expr.{Expr}
use Rattle.f77_ast.specs.Trees.{ExprTrees}
use Rattle.f77_ast.specs.Plain.{expr_tree, expr_trees}
use Rattle.f77_ast.proofs.Plainly.{expr_trees-drop}
use Rattle.f77_ast.specs.declared.variable.Variable.{Variable}
use Rattle.f77_ast.specs.Symbols.{SymbolTree}
use Rattle.array_regions.specs.transformer_algebra.declared.transformer.Transformer.{Transformer}
use Rattle.array_regions.specs.call_translation.Scopes.{ScopeTree}
use Rattle.array_regions.specs.region_sets.declared.region.Region.{Region}
use Rattle.array_regions.specs.region_sets.Regions.{RegionFits}
use Rattle.array_regions.specs.region_sets.Sets.{SetFits}
use Rattle.array_regions.proofs.RegionSets.Steps.{fits-push, set-push, and_assoc}
use Rattle.array_regions.proofs.RegionSets.ListSteps.{set-fits}
use Rattle.in_out_regions.specs.Writes.{is_write_of, write_of}
use Rattle.in_out_regions.specs.Lists.{before_rest, ins_in_order}
use Rattle.in_out_regions.specs.Simple.{with_item, reading}
use Rattle.array_regions.proofs.CallTranslation.Steps.{given-push}

-- ---- sets

-- the WRITE region of a variable is one of the set
found-fits : (v : Variable) (ws : List Region) → SetFits ws → IfSome (write_of v ws) RegionFits
found-fits v [] h = tt
found-fits v (w ∷ ws) h = go (is_write_of v w) (found-fits v ws h.1)
  where
    go : (b : Bool) → IfSome (write_of v ws) RegionFits → IfSome (if b then Some w else write_of v ws) RegionFits
    go true f = h.0
    go false f = f

pub write-fits : (v : Variable) (ws : List Region) (o : Option Region) → o ≡ write_of v ws → SetFits ws → IfSome o RegionFits
write-fits v ws o e h = subst (λ (q : Option Region). IfSome q RegionFits) (sym e) (found-fits v ws h)

pub ruleset regions = (set-push, fits-push, append_assoc, append-nil, and_assoc, write-fits, set-fits)

pub ruleset rows = (given-push, append_assoc, append-nil)

-- ---- lists

pub order-step : (ss : List SymbolTree) (t : ℕ → Transformer) (f g : ℕ → List Region) (ns : List ℕ) (i d : ℕ) (set new : List Region) → i < length ns → set ≡ ins_in_order ss t f g (drop (i + 1) ns) →
    new ≡ before_rest ss (g (get_or ns i d)) (f (get_or ns i d)) (t (get_or ns i d)) set → new ≡ ins_in_order ss t f g (drop i ns)
order-step ss t f g ns i d set new l e h =
    let n = get_or ns i d in
    h ∙ (ap (before_rest ss (g n) (f n) (t n)) (e ∙ ap (λ j. ins_in_order ss t f g (drop j ns)) (add-one i)) ∙ ap (ins_in_order ss t f g) (sym (drop-cons ns i d l)))

pub ruleset order_step = (order-step)

-- ---- items of a READ

pub reading-step : (m : ScopeTree) (es : List Expr) (i : ℕ) (x : Expr) (set new : List Region) → i < length es → x ≡ get_or es i x → set ≡ reading (expr_trees (drop (i + 1) es)) m → new ≡ with_item m (expr_tree x) set → new ≡ reading (expr_trees (drop i es)) m
reading-step m es i x set new l g e h =
    h ∙ (ap (with_item m (expr_tree x)) e ∙ (ap (λ (y : Expr). with_item m (expr_tree y) (reading (expr_trees (drop (i + 1) es)) m)) g
    ∙ ap (λ (ts : ExprTrees). reading ts m) (sym (expr_trees-drop es i x l))))

pub ruleset item_step = (reading-step)
