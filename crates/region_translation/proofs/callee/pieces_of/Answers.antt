use Rattle.std.proofs.Common.{◌≡◌, ℕ, List, map, ap, ◌∙◌}
use Rattle.std.proofs.lemmas.Result.{IfOk-weaker}
use Rattle.affine_systems.specs.declared.row.System.{System}
use Rattle.call_equations.specs.Sides.{sides_tree}
use Rattle.region_translation.specs.Links.{subscripts_of}
use Rattle.region_translation.specs.CalleePieces.{piece_in_callee}
use Rattle.region_translation.proofs.callee.pieces_of.Goals as goal

pub returns-clause-defined : goal.returns-clause-defined
returns-clause-defined c =
    let s = sides_tree c.args.sides.now in
    let l = c.args.link.now in
    let r = c.args.r.now in
    let f : ℕ → List System → List System = λ n ss. map (piece_in_callee s l.moved n l.rows) ss in
    IfOk-weaker c.all_pieces.result (λ (ss : List System). ss ≡ f c.in_ok-rank.rank c.as_slice.result.now) (λ (ss : List System). ss ≡ f (subscripts_of s r.variable) r.pieces)
    (λ ss e. e ∙ (ap (λ n. f n c.as_slice.result.now) c.in_ok-rank.ensures ∙ ap (λ ss'. f (subscripts_of s r.variable) ss') c.as_slice.ensures))
    c.all_pieces.ensures.defined
