-- JSON of texts.
use Rattle.std.proofs.Common.{◌≡◌, ◌<◌, ◌+◌, ◌≤◌, ℕ, List, [], ◌∷◌, ◌++◌, Some, length, drop, get_or, sym, ap, ◌∙◌, arith, append_assoc, append-nil, IsUtf8}
use Rattle.std.proofs.lemmas.List.{drop_all, drop_more}
use Rattle.json.specs.Print.{print, print_from, quoted}
use Rattle.json.specs.Token.{Token, key, string}
use Rattle.serde_json.specs.Data as tree
use Rattle.serde_json.specs.Read.{read}
use Rattle.sentry_json.proofs.ReadBack.{read_back}
use Rattle.sentry_making.specs.Texts.{member_tokens}
use Rattle.sentry_making.specs.declared.texts.TextMember.{TextMember}

-- ---- a string

pub printed_string : (s : List ℕ) → print (string s ∷ []) ≡ quoted s
unfolding print_from
printed_string s = append-nil (quoted s)

pub string_reads : (s : List ℕ) → IsUtf8 s → read (quoted s) ≡ Some (tree.string s)
string_reads s utf8 = read_back (tree.string s) utf8 (omega arith)

-- ---- members

module _ (members : List TextMember) (i : ℕ) (d : TextMember) (within : i < length members) where
  abbrev here : TextMember
  here = get_or members i d

  pub one_more : (before old keyed new : List Token) → old ++ member_tokens (drop i members) ≡ before ++ member_tokens members → keyed ≡ old ++ key here.key.now ∷ [] → new ≡ keyed ++ string here.value.now ∷ []
      → new ++ member_tokens (drop (i + 1) members) ≡ before ++ member_tokens members
  one_more before old keyed new so_far named valued =
      ap (λ ts. ts ++ member_tokens (drop (i + 1) members)) (valued ∙ ap (λ ts. ts ++ string here.value.now ∷ []) named)
      ∙ append_assoc (old ++ key here.key.now ∷ []) (string here.value.now ∷ []) (member_tokens (drop (i + 1) members))
      ∙ append_assoc old (key here.key.now ∷ []) (string here.value.now ∷ member_tokens (drop (i + 1) members))
      ∙ ap (λ ms. old ++ member_tokens ms) (sym (drop_more members i d within)) ∙ so_far

pub all_written : (members : List TextMember) (i : ℕ) (before now : List Token) → length members ≤ i → now ++ member_tokens (drop i members) ≡ before ++ member_tokens members → now ≡ before ++ member_tokens members
all_written members i before now end e = sym (append-nil now) ∙ ap (λ ms. now ++ member_tokens ms) (sym (drop_all i members end)) ∙ e
