-- Members that a sink takes.
use Rattle.std.proofs.Common.{ℕ, List, Result, Ok, Err, refl}
use Rattle.std.specs.Prelude.{OnOk}
use Rattle.json.specs.Token.{Token}
use Rattle.json.specs.Written.{Written, Writes}
use Rattle.serde_json.specs.Data.{Data, null, string, no_members, member}
use Rattle.sentry_tables.specs.Continued.{no_members_wrote}
use Rattle.sentry_tables.specs.Writes.{WritesTree, WritesMembers}
use Rattle.sentry_tables.proofs.Tokens.{members_wrote, null_wrote, string_wrote}

pub member_wrote : {E F : Type 0} (k : List ℕ) (d : Data) (r : Result (Unit {0}) E) (a b c : Written) → Writes {E = F} (Ok tt) a b (Token.key k) → OnOk r (WritesTree d b c) → OnOk r (WritesMembers (member k d no_members) a c)
member_wrote k d (Ok u) a b c x y = members_wrote k k d no_members a b c c refl x y (no_members_wrote c)
member_wrote k d (Err e) a b c x y = tt

pub null_member_wrote : {E F : Type 0} (k : List ℕ) (r : Result (Unit {0}) E) (a b c : Written) → Writes {E = F} (Ok tt) a b (Token.key k) → Writes r b c Token.null → OnOk r (WritesMembers (member k null no_members) a c)
null_member_wrote k r a b c x y = member_wrote k null r a b c x (null_wrote r b c y)

pub word_member_wrote : {E F : Type 0} (k s : List ℕ) (r : Result (Unit {0}) E) (a b c : Written) → Writes {E = F} (Ok tt) a b (Token.key k) → Writes r b c (Token.string s) → OnOk r (WritesMembers (member k (string s) no_members) a c)
word_member_wrote k s r a b c x y = member_wrote k (string s) r a b c x (string_wrote s r b c y)
