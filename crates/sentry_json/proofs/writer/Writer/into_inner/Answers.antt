use Rattle.std.proofs.Common.{◌≡◌, ◌++◌, IsUtf8, sym, ap, ◌∙◌, subst, take, take-append-drop}
use Rattle.json.specs.Lex.{tokens}
use Rattle.json.specs.Print.{print}
use Rattle.json.proofs.Printed.Tokens.{tokens-print}
use Rattle.sentry_json.proofs.Writers.{shows_printed}
use Rattle.sentry_json.proofs.writer.Writer.into_inner.Goals as goal

pub returns : goal.returns
returns c =
    let w = c.self.inside in
    let h = c.self.invariant in
    let printed : h.printed ≡ c.args.self.tokens = sym (shows_printed w h) ∙ ap (λ v. v.tokens) c.self.view_is in
    record {
      items = c.into_vec.ensures ∙ sym (take-append-drop w.start w.out.items) ∙ ap (λ l. take w.start w.out.items ++ l) h.text
          ∙ (λ i. (c.self.view_is i).before ++ print (printed i));
      reads_back = subst (λ ts. tokens (print ts) ≡ ts) printed (tokens-print h.printed h.printable);
      utf8 = subst IsUtf8 (h.text ∙ ap print printed) h.utf8;
    }
