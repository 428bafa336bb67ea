-- A path without its outer slashes, after one slash: what a DSN prints of its URL's path.
use Rattle.std.proofs.Common.{◌≡◌, ◌≢◌, ℕ, ◌<◌, List, [], ◌∷◌, ◌++◌, length, get_or, drop, reverse, refl, sym, ap, ◌∙◌, subst, ⊎_elim, arith, All}
use Rattle.std.specs.Prelude.{unwrap_or}
use Rattle.std.proofs.lemmas.Bool.{cases_eq, true≢false}
use Rattle.std.proofs.lemmas.List.{reverse-append, reverse-reverse}
use Rattle.std.proofs.lemmas.List.Elements.{All-nil, All-head, All-tail}
use Rattle.url.specs.declared.scheme.SchemeType.{SchemeType}
use Rattle.url.specs.Path.{IsSegment, join_segments, IsSegmentList}
use Rattle.url.specs.Scheme.{is_slash}
use Rattle.url.proofs.InputLemmas.{IsNot, rsplit_once_at}
use Rattle.url.proofs.PathLemmas.{IsNoSlash, rooted, without_last_valid}
use Rattle.sentry_keys.specs.DsnPath.{cut_front, cut_end, inner}
use Rattle.sentry_keys.proofs.DsnCuts.{cut_slash, cut_done}

-- ---- without outer slashes

abbrev IsUnrooted : List ℕ → Type 0
IsUnrooted text = (rest : List ℕ) → text ≢ 47 ∷ rest

kept_front : (c : ℕ) (cs : List ℕ) → c ≢ 47 → cut_front (c ∷ cs) ≡ c ∷ cs
kept_front c cs other = cut_done (c ∷ cs) (λ rest e. other (ap (λ t. get_or t 0 0) e))

lost_front : (c : ℕ) (cs : List ℕ) → c ≡ 47 → cut_front (c ∷ cs) ≡ cut_front cs
lost_front c cs same = cut_slash (c ∷ cs) cs (ap (λ k. k ∷ cs) same)

cut_unrooted : (text : List ℕ) → IsUnrooted (cut_front text)
cut_unrooted [] rest e = let none = ap length e in omega arith
cut_unrooted (c ∷ cs) rest e =
    ⊎_elim
    (λ same. cut_unrooted cs rest (sym (lost_front c cs same) ∙ e))
    (λ other. other (ap (λ t. get_or t 0 0) (sym (kept_front c cs other) ∙ e)))
    (cases_eq c 47)

end_unrooted : (turned : List ℕ) → IsUnrooted (reverse turned) → IsUnrooted (reverse (cut_front turned))
end_unrooted [] h = h
end_unrooted (c ∷ cs) h =
    ⊎_elim
    (λ same. subst (λ t. IsUnrooted (reverse t)) (sym (lost_front c cs same)) (end_unrooted cs (λ rest e. h (rest ++ c ∷ []) (reverse-append (c ∷ []) cs ∙ ap (λ t. t ++ c ∷ []) e))))
    (λ other. subst (λ t. IsUnrooted (reverse t)) (sym (kept_front c cs other)) h)
    (cases_eq c 47)

cut_end_again : (text : List ℕ) → cut_end (cut_end text) ≡ cut_end text
cut_end_again text =
    ap (λ t. reverse (cut_front t)) (reverse-reverse (cut_front (reverse text)))
    ∙ ap reverse (cut_done (cut_front (reverse text)) (cut_unrooted (reverse text)))

-- a path without its outer slashes has none to lose
pub inner_again : (path : List ℕ) → inner (47 ∷ inner path) ≡ inner path
inner_again path =
    let text = cut_front path in
    let plain = end_unrooted (reverse text) (subst IsUnrooted (sym (reverse-reverse text)) (cut_unrooted path)) in
    ap cut_end (lost_front 47 (inner path) refl ∙ cut_done (inner path) plain) ∙ cut_end_again text

-- ---- lists of segments

without_empty : (kind : SchemeType) (rest : List ℕ) (segments : List (List ℕ)) → 47 ∷ 47 ∷ rest ≡ join_segments segments → All (IsSegment kind) segments → IsSegmentList kind (47 ∷ rest)
without_empty kind rest [] joined each = absurd (let none = ap length joined in omega arith)
without_empty kind rest ([] ∷ more) joined each =
    record { segments = more; joined = ap (drop 1) joined; each = All-tail (IsSegment kind) [] more each }
without_empty kind rest ((c ∷ s) ∷ more) joined each =
    let slash : 47 ≡ c = ap (λ t. get_or t 1 0) joined in
    let none = All-head (IsNoSlash kind) c s (All-head (IsSegment kind) (c ∷ s) more each).whole in
    absurd (true≢false (ap (is_slash kind) slash ∙ none))

fewer_slashes : (kind : SchemeType) (rest : List ℕ) → IsSegmentList kind (47 ∷ 47 ∷ rest) → IsSegmentList kind (47 ∷ rest)
fewer_slashes kind rest list = without_empty kind rest list.segments list.joined list.each

without_last_slash : (kind : SchemeType) (path : List ℕ) → IsSegmentList kind (path ++ 47 ∷ []) → IsSegmentList kind path
without_last_slash kind path list =
    subst (λ r. IsSegmentList kind (unwrap_or r.0 [])) (rsplit_once_at 47 path [] (All-nil (IsNot 47))) (without_last_valid kind (path ++ 47 ∷ []) list)

front_valid : (kind : SchemeType) (text : List ℕ) → IsSegmentList kind (47 ∷ text) → IsSegmentList kind (47 ∷ cut_front text)
front_valid kind [] list = list
front_valid kind (c ∷ cs) list =
    let P = λ (t : List ℕ). IsSegmentList kind (47 ∷ t) in
    ⊎_elim
    (λ same. subst P (sym (lost_front c cs same)) (front_valid kind cs (fewer_slashes kind cs (subst (λ k. P (k ∷ cs)) same list))))
    (λ other. subst P (sym (kept_front c cs other)) list)
    (cases_eq c 47)

end_valid : (kind : SchemeType) (turned : List ℕ) → IsSegmentList kind (47 ∷ reverse turned) → IsSegmentList kind (47 ∷ reverse (cut_front turned))
end_valid kind [] list = list
end_valid kind (c ∷ cs) list =
    let P = λ (t : List ℕ). IsSegmentList kind (47 ∷ reverse t) in
    let open_list = subst (λ t. IsSegmentList kind (47 ∷ t)) (reverse-append (c ∷ []) cs) list in
    ⊎_elim
    (λ same. subst P (sym (lost_front c cs same)) (end_valid kind cs (without_last_slash kind (47 ∷ reverse cs) (subst (λ k. IsSegmentList kind (47 ∷ (reverse cs ++ k ∷ []))) same open_list))))
    (λ other. subst P (sym (kept_front c cs other)) list)
    (cases_eq c 47)

-- the path of a special URL stays a list of segments without its outer slashes but one
pub inner_valid : (kind : SchemeType) (path : List ℕ) → IsSegmentList kind path → 0 < length path → IsSegmentList kind (47 ∷ inner path)
inner_valid kind [] list some = absurd (omega arith)
inner_valid kind (b ∷ path) list some =
    let slash : b ≡ 47 = ⊎_elim (λ empty. absurd (let none = ap length empty in omega arith)) (λ first. first) (rooted kind (b ∷ path) list) in
    let front = front_valid kind path (subst (λ x. IsSegmentList kind (x ∷ path)) slash list) in
    let turned = reverse (cut_front path) in
    subst (λ t. IsSegmentList kind (47 ∷ cut_end t)) (sym (lost_front b path slash))
    (end_valid kind turned (subst (λ t. IsSegmentList kind (47 ∷ t)) (sym (reverse-reverse (cut_front path))) front))
