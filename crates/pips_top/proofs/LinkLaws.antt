-- Refusals of links.
use Rattle.std.proofs.Common.{◌≡◌, ℕ, Result, Err, sym, ap, ◌∙◌, subst}
use Rattle.f77_parser.specs.Gives.{Gives}
use Rattle.f77_parser.specs.declared.refusal.ParseRefusal.{ParseRefusal}
use Rattle.call_graph.specs.declared.graph.Graph.{Graph}
use Rattle.call_graph.specs.declared.refusal.Fault.{Fault}
use Rattle.call_graph.specs.declared.refusal.LinkRefusal.{LinkRefusal}
use Rattle.call_graph.specs.declared.refusal.LinkRefusal.TheVariants.{NoMain, At, Memory}
use Rattle.call_graph.specs.Faults as link
use Rattle.pips_top.specs.Reading.{graph_or, refused_at, in_reading}

-- a refusal of links is one of reading
pub refused_links : (found : Result Graph Fault) (e : LinkRefusal) (r : ParseRefusal) → r ≡ in_reading e → link.Gives (Err e) found
    → Gives (λ (g : Graph). g) (Err r) (graph_or found)
refused_links found NoMain r same given =
    subst (λ (x : ParseRefusal). Gives (λ (g : Graph). g) (Err x) (graph_or found)) (sym same) (ap graph_or given)
refused_links found (At place line code) r same (cause, numbered, is) =
    subst (λ (x : ParseRefusal). Gives (λ (g : Graph). g) (Err x) (graph_or found)) (sym same)
    (ap graph_or is ∙ ap (λ (n : ℕ). Err (refused_at line n)) numbered)
refused_links found Memory r same given =
    subst (λ (x : ParseRefusal). Gives (λ (g : Graph). g) (Err x) (graph_or found)) (sym same) tt
