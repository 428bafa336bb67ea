-- What a writer shows, and what one more token does to it.
use Rattle.std.proofs.Common.{◌≡◌, ◌&&◌, false, [], ◌∷◌, ◌++◌, Result, Ok, length, take, drop, IsUtf8, subst, sym, ap, ◌∙◌, arith, length-append}
use Rattle.std.proofs.lemmas.List.{take-append-le, drop-append-le}
use Rattle.std.proofs.lemmas.Str.{IsUtf8-append}
use Rattle.json.specs.Token.{Token}
use Rattle.json.specs.Lex.{tokens}
use Rattle.json.specs.Print.{separator, begins, token_text, ends, IsPrintable}
use Rattle.json.proofs.Printed.Tokens.{tokens-print, print_from_push, ends_push, ArePrintable-push}
use Rattle.json.proofs.Printed.Utf8.{IsUtf8-separator}
use Rattle.sentry_json.specs.Filled.{Appends}
use Rattle.json.specs.Written.{Writes}
use Rattle.sentry_json.specs.Writer.{writer_view, IsWriter}
use Rattle.sentry_json.specs.declared.writer.Writer.TheInside.{Inside}
use Rattle.sentry_json.proofs.Appended.{comma_room}

-- its tokens are those that were printed
pub shows_printed : (w : Inside) (h : IsWriter w) → (writer_view w).tokens ≡ h.printed
shows_printed w h = ap tokens h.text ∙ tokens-print h.printed h.printable

-- ---- v has the text of a token behind that of w

module _ (w v : Inside) (h : IsWriter w) (t : Token) (printable : IsPrintable t) (utf8 : IsUtf8 (token_text t)) (start : v.start ≡ w.start) (appended : Appends w.out v.out (separator w.after_value t ++ token_text t)) (place : v.after_value ≡ ends t) where
  behind : drop v.start v.out.items ≡ drop w.start w.out.items ++ (separator w.after_value t ++ token_text t)
  behind = (λ i. drop (start i) (appended.items i)) ∙ drop-append-le w.start w.out.items (separator w.after_value t ++ token_text t) h.within

  pub stays_writer : IsWriter v
  stays_writer = record {
    within = omega (arith, h.within, ap length appended.items, length-append w.out.items (separator w.after_value t ++ token_text t));
    printed = h.printed ++ t ∷ [];
    printable = ArePrintable-push h.printed t h.printable printable;
    text = behind ∙ (λ i. h.text i ++ (separator (h.place i) t ++ token_text t)) ∙ sym (print_from_push false h.printed t);
    place = place ∙ sym (ends_push false h.printed t);
    utf8 = subst IsUtf8 (sym behind) (IsUtf8-append _ _ h.utf8 (IsUtf8-append _ _ (IsUtf8-separator w.after_value t) utf8));
  }

  pub writes : {E : Type 0} (r : Result (Unit {0}) E) → r ≡ Ok tt → Writes r (writer_view w) (writer_view v) t
  unfolding stays_writer
  writes r is = rw is (record {
    ok = shows_printed v stays_writer ∙ ap (λ l. l ++ t ∷ []) (sym (shows_printed w h));
    err = tt;
    room = ((λ i. take (start i) (appended.items i)) ∙ take-append-le w.start w.out.items _ h.within, omega (arith, appended.room, comma_room (w.after_value && begins t) (token_text t)));
  })
