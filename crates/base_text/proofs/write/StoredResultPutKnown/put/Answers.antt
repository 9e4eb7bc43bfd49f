use Rattle.std.proofs.Common.{◌≡◌, [], ◌∷◌, ◌++◌, append_assoc, decimal, true, ap, ◌∙◌}
use Rattle.std.proofs.lemmas.Result.{on_ok_weaker}
use Rattle.serde_json.specs.Written.{members_text}
use Rattle.serde_json.proofs.OnLiterals.{serde_json_on_literals}
use Rattle.base_values.specs.Sizes.{kind_of}
use Rattle.base_text.specs.Formats.{format_of}
use Rattle.base_text.specs.Modules.{known_names}
use Rattle.base_text.specs.Written.{kind_and_value}
use Rattle.base_text.proofs.write.StoredResultPutKnown.put.Goals as goal

pub returns : goal.returns
unfolding serde_json_on_literals
returns c =
    let r = c.args.self.now in
    let number : c.from.result ≡ format_of (kind_of r.value) = cc in
    let front = 123 ∷ 34 ∷ 102 ∷ 111 ∷ 114 ∷ 109 ∷ 97 ∷ 116 ∷ 34 ∷ 58 ∷ [] in
    let digits = decimal (format_of (kind_of r.value)) in
    let rest = members_text true (kind_and_value (known_names c.args.scope.now) r) in
    let before = c.in_ok-put_number.ensures ∙ (ap (λ n. c.append.new.self ++ decimal n) number ∙ ap (λ o. o ++ digits) c.in_ok-append.ensures.ok) in
    on_ok_weaker c.put_kind_and_value.result
    (λ e. e ∙ (ap (λ o. o ++ rest) before ∙ (append_assoc (c.args.out.now ++ front) digits rest ∙ append_assoc c.args.out.now front (digits ++ rest))))
    c.put_kind_and_value.ensures
