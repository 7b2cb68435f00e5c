use Rattle.std.proofs.Common.{◌≡◌, ◌∙◌, ap, sym, map, codes, [], Some, option_map, unwrap_or}
use Rattle.std.proofs.lemmas.Result.{IfOk-weaker}
use Rattle.clap.specs.Words.{all_of, rows_of, found_of}
use Rattle.clap.proofs.WalkLemmas.{raw_values-rows}
use Rattle.bs_words.proofs.reading.names_in.Goals as goal

pub returns-in-Some : goal.returns-in-Some
returns-in-Some c =
    let all = c.get_strs.ensures ∙ raw_values-rows (found_of c.args.matches.now) (codes "names") in
    let here : Some (map (λ n. n.now) c.in-Some.names.now) ≡ all_of (codes "names") (rows_of (found_of c.args.matches.now)) = ap (option_map (λ s. map (λ n. n.now) s.now)) (sym c.in-Some.is) ∙ all in
    IfOk-weaker c.to_vec.result _ _ (λ v h. ap (map (λ n. n.now)) (h (λ x y e. e)) ∙ ap (λ o. unwrap_or o []) here) c.to_vec.ensures.items_if_clones_equal

pub returns-in-None : goal.returns-in-None
returns-in-None c =
    let all = c.get_strs.ensures ∙ raw_values-rows (found_of c.args.matches.now) (codes "names") in
    ap (map (λ n. n.now)) c.new.ensures.items ∙ ap (λ o. unwrap_or o []) (ap (option_map (λ s. map (λ n. n.now) s.now)) (sym c.in-None.is) ∙ all)
