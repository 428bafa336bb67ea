-- Values that are written in another form are lawful.
use Rattle.std.proofs.Common.{refl, sym, ap, ◌∙◌, arith}
use Rattle.std.proofs.lemmas.Bool.{false≢true}
use Rattle.sentry_tables.specs.Cell.{Cell}
use Rattle.sentry_tables.specs.Kind.{Kind, scalar}
use Rattle.sentry_tables.specs.Lawful.{ScalarLaws, RefusesNull, IsMoment}
use Rattle.sentry_tables.specs.Laws.{HasLaws, IsStableAt}
use Rattle.sentry_tables.specs.Meets.{IsStored, IsPlain}
use Rattle.sentry_tables.specs.Norm.{norm}
use Rattle.sentry_tables.specs.Written.{tree}
use Rattle.sentry_tables.proofs.DrawnTrees.{never_drawn}
use Rattle.sentry_tables.specs.WrittenAs.{any_moment, written_as, FormLaws}

is_moment : IsMoment any_moment
is_moment = (omega arith, omega arith)

module _ (K : Kind) (form : Cell → Cell) where
  pub written_as_laws : HasLaws K → FormLaws K form → ScalarLaws (written_as K form)
  written_as_laws has own =
      let stable : (c : Cell) → IsStored K c × IsPlain K c → IsStableAt K (form c) = λ c p. has.stable (form c) (own.stored c p.0) (own.plain c p.1) in
      record {
        back = λ c p q. (has.back (form c) any_moment (own.stored c p.0) (own.plain c p.1) (own.readable c q)).0;
        single = λ d c x h k. has.single any_moment d c x (never_drawn K own.undrawn d) h k;
        again = λ c p. ap (norm K) (own.settled c p.0 p.1) ∙ (stable c p).again;
        stored_norm = λ c p. (stable c p).stored;
        plain_norm = λ c p. (stable c p).plain;
        readable_norm = λ c p q. (stable c p).readable (own.readable c q);
        depth_norm = λ c p. rw (own.settled c p.0 p.1) (stable c p).depth;
        null_tree = own.not_null;
        null_norm = λ c p. refl;
        sound = λ c p. has.written (form c) (own.stored c p.0) (own.plain c p.1);
        shown_stored = λ d c s h. (has.rewritten d c any_moment s is_moment h).0;
        shown_plain = λ d c s h. (has.rewritten d c any_moment s is_moment h).1;
        shown_readable = λ d c s h. has.shown_readable d c any_moment s is_moment h;
        shown_null = λ d c h e. absurd (false≢true e);
        shown_tree = λ d c s h.
            let p = has.rewritten d c any_moment s is_moment h in
            own.alike d c s h p.0 p.1 ∙ ap (tree K) (sym (own.settled c p.0 p.1));
        decide = λ d. has.decided d any_moment;
      }

  pub written_as_refuses_null : RefusesNull K → RefusesNull (scalar (written_as K form))
  written_as_refuses_null h now c s = h any_moment c s
