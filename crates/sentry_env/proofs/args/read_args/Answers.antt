use Rattle.sentry_env.proofs.args.read_args.Goals as goal

pub returns-in_default-clause-no_call : goal.returns-in_default-clause-no_call
returns-in_default-clause-no_call c _ keep_headers path kinds call =
    c.in_default.ensures.none path kinds ((c.split_keep-keep_headers.ensures keep_headers path kinds).0 call).1

pub returns-in_default-2-clause-no_call : goal.returns-in_default-2-clause-no_call
returns-in_default-2-clause-no_call c _ keep_headers path kinds call =
    let after_keep = ((c.split_keep-keep_headers.ensures keep_headers path kinds).0 call).1 in
    let after_path = ((c.in-Some.ensures.found path kinds).0 after_keep).1 in
    (rw c.in_default-2.is at c.in_ok-kinds.ensures) kinds after_path
