-- How large values are, as their losses count them.
use Rattle.std.specs.Prelude.{ℕ, ◌+◌, ◌-◌, ◌^◌, min, max, List, length, sum_by, String, string_bytes}
use Rattle.std.specs.Cow.{cow_str_bytes}
use Rattle.std.specs.declared.alloc.Global.{Global}
use Rattle.serde_json.specs.Data.{Data, null, boolean, number, string, array, object, Items, no_items, item, Members, no_members, member}
use Rattle.serde_json.specs.View.{view}
use Rattle.sentry_records.specs.declared.log.Log.{Log}
use Rattle.sentry_records.specs.declared.log_attribute.LogAttribute.{LogAttribute}
use Rattle.sentry_records.specs.declared.metric.Metric.{Metric}
use Rattle.sentry_records.specs.declared.session_aggregate_item.SessionAggregateItem.{SessionAggregateItem}

-- a sum is cut once, at what 64 bits hold
abbrev pub cut : ℕ → ℕ
cut n = min n (2 ^ 64 - 1)

-- the sessions of a group, however they ended
abbrev pub sessions_in : SessionAggregateItem → ℕ
sessions_in g = g.exited + g.errored + g.abnormal + g.crashed

-- ---- bytes of logs and metrics

-- a tree of JSON: null 0, a truth value 1, a number 8, a text its bytes, an array its items, an
-- object its keys and values
abbrev mutual
  pub data_size : Data → ℕ
  data_size null = 0
  data_size (boolean b) = 1
  data_size (number n) = 8
  data_size (string s) = length s
  data_size (array ds) = items_size ds
  data_size (object ms) = members_size ms

  pub items_size : Items → ℕ
  items_size no_items = 0
  items_size (item d ds) = data_size d + items_size ds

  pub members_size : Members → ℕ
  members_size no_members = 0
  members_size (member k d ms) = (length k + data_size d) + members_size ms

-- an attribute: its key and its value
abbrev pub attribute_size : String Global × LogAttribute → ℕ
attribute_size m = length (string_bytes m.0) + data_size (view m.1.0)

abbrev pub attributes_size : List (String Global × LogAttribute) → ℕ
attributes_size ms = sum_by attribute_size ms

-- a log: its text and its attributes, and at least 1
abbrev pub log_size : Log → ℕ
log_size l = max 1 (length (string_bytes l.body) + attributes_size l.attributes.entries)

-- a metric: its name, 8 for its number, and its attributes
abbrev pub metric_size : Metric → ℕ
metric_size m = length (cow_str_bytes m.name) + 8 + attributes_size m.attributes.entries
