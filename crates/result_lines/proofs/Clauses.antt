-- REDUCTION clauses one after another.
use Rattle.std.proofs.Common.{◌≡◌, ℕ, ◌+◌, ◌<◌, List, ◌∷◌, ◌++◌, length, drop, get_or, append_assoc, sym, ap, ap₂, ◌∙◌}
use Rattle.std.specs.Prelude.{codes}
use Rattle.std.proofs.lemmas.List.{drop_more}
use Rattle.system_text.specs.SystemText.{Bytes, name_at}
use Rattle.result_lines.specs.ReductionText.{op_word, reduction_clause, reduction_clauses}
use Rattle.result_lines.specs.declared.reduction.Part.{Part}

-- a clause, put part by part
pub clause_made : (names : List Bytes) (p : Part) (out first word second third last : Bytes)
    → first ≡ out ++ codes " REDUCTION(" → word ≡ op_word p.op → second ≡ first ++ word → third ≡ second ++ codes ":" → last ≡ third ++ name_at names p.cell
    → last ++ codes ")" ≡ out ++ reduction_clause names p
clause_made names p out first word second third last a w b c d =
    let head : Bytes = codes " REDUCTION(" in
    let op : Bytes = op_word p.op in
    let colon : Bytes = codes ":" in
    let name : Bytes = name_at names p.cell in
    let end : Bytes = codes ")" in
    ap (λ (x : Bytes). x ++ end) (d ∙ ap (λ (x : Bytes). x ++ name) (c ∙ ap (λ (x : Bytes). x ++ colon) (b ∙ ap₂ (λ (x y : Bytes). x ++ y) a w)))
    ∙ (append_assoc (((out ++ head) ++ op) ++ colon) name end
    ∙ (append_assoc ((out ++ head) ++ op) colon (name ++ end)
    ∙ (append_assoc (out ++ head) op (colon ++ (name ++ end))
    ∙ append_assoc out head (op ++ (colon ++ (name ++ end))))))

-- one clause more
pub clauses_step : (names : List Bytes) (ps : List Part) (i : ℕ) (d : Part) (out next all : Bytes) → i < length ps → next ≡ out ++ reduction_clause names (get_or ps i d) → out ++ reduction_clauses names (drop i ps) ≡ all
    → next ++ reduction_clauses names (drop (i + 1) ps) ≡ all
clauses_step names ps i d out next all l h e =
    let p = get_or ps i d in
    let rest = drop (i + 1) ps in
    ap (λ (x : Bytes). x ++ reduction_clauses names rest) h
    ∙ (append_assoc out (reduction_clause names p) (reduction_clauses names rest)
    ∙ (ap (λ (qs : List Part). out ++ reduction_clauses names qs) (sym (drop_more ps i d l)) ∙ e))
