use Rattle.std.proofs.Common.{◌+◌, ◌++◌, ◌∷◌, [], map, take, None, ap, sym, ◌∙◌}
use Rattle.f77_ast.specs.PlainDecl.{decl_tree}
use Rattle.f77_names.specs.Kinds.{alphabet, default_kind, implied_type, kind_or, kinds_from}
use Rattle.f77_names.proofs.KindsLaws.{kinds_from-more}
use Rattle.f77_names.proofs.kinds.Kinds.of.Goals as goal

pub loop-n-preserved : goal.loop-n-preserved
loop-n-preserved c =
    let ds = map decl_tree c.args.decls.now in
    let n = c.loop-n.n in
    let kind = c.letter_kind.ensures ∙ ap (λ b. kind_or (default_kind b (65 + n)) (implied_type (65 + n) ds None)) c.has_none-none.ensures in (
      c.has_none-none.ensures,
      c.in_ok-push.ensures.items ∙ ap (λ ks. ks ++ c.letter_kind.result ∷ []) c.loop-n.invariant.1
          ∙ ap (λ k. kinds_from ds 65 (take n alphabet) ++ k ∷ []) kind ∙ sym (kinds_from-more ds n c.loop-n-test.true),
    )
