-- Events that are made of the caller's texts.
use Rattle.std.specs.Prelude.{◌≡◌, ℕ, List, map}
use Rattle.json.specs.Print.{print}
use Rattle.sentry_tables.specs.Cell.{Cell}
use Rattle.sentry_framing.specs.declared.error.EnvelopeError.{EnvelopeError}
use Rattle.sentry_envelope.specs.EnvelopeFault.{Fault}
use Rattle.sentry_envelope.specs.NormalText.{IsNormalText}
use Rattle.sentry_envelope.specs.SentryProfile.{profile}
use Rattle.sentry_making.specs.Texts.{event_tokens}
use Rattle.sentry_making.specs.declared.texts.TextMember.{TextMember}
use Rattle.sentry_c.specs.Making.{AreJoined, event_envelope, event_members, pair_of}
use Rattle.sentry_c.specs.declared.pairs.CurdmesaPair.{CurdmesaPair}

-- the bytes are an envelope of one event, with these members and tags
pub record HasEvent (level message release environment texts : List ℕ) (lengths : List CurdmesaPair) (bytes : List ℕ) : Type 0 where
  pub members : List TextMember
  pub tags : List TextMember
  pub members_are : map pair_of members ≡ event_members level message release environment
  pub tags_are : AreJoined texts lengths (map pair_of tags)
  pub bytes_are : bytes ≡ event_envelope (print (event_tokens members tags))

-- the text is the normal form of such an envelope at this moment
pub record IsEvent (level message release environment texts : List ℕ) (lengths : List CurdmesaPair) (now : Cell) (text : List ℕ) : Type 0 where
  pub bytes : List ℕ
  pub event : HasEvent level message release environment texts lengths bytes
  pub normal : IsNormalText bytes now text

-- such an envelope is refused
pub record IsRefusedEvent (level message release environment texts : List ℕ) (lengths : List CurdmesaPair) (error : EnvelopeError) : Type 0 where
  pub bytes : List ℕ
  pub event : HasEvent level message release environment texts lengths bytes
  pub fault : Fault profile bytes error
