use Rattle.sentry_words.proofs.laws.equal_values_hash_alike.Goals as goal

pub returns : goal.returns
returns g c = g.met.T.Hash.respects_eq
