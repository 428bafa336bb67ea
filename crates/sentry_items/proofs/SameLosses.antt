-- Items that hold the same lose the same.
use Rattle.std.proofs.Common.{arith, ◌≡◌, ℕ, suc, ◌+◌, List, [], ◌∷◌, length, sum_by, Global, String, None, refl, sym, ap, ◌∙◌}
use Rattle.std.proofs.lemmas.List.Sums.{sum_by-cons}
use Rattle.std.proofs.lemmas.Option.{same_Some}
use Rattle.sentry_tables.specs.Cell.{Cell, Cells, no_cells, sequence}
use Rattle.sentry_tables.specs.Cells.{cells, entries}
use Rattle.sentry_event.specs.Spans.{span_cell}
use Rattle.sentry_event.specs.Transactions.{transaction_fields, transaction_cell}
use Rattle.sentry_event.specs.declared.transaction.Transaction.{Transaction}
use Rattle.sentry_records.specs.LogAttribute.{attribute_cell}
use Rattle.sentry_records.specs.Logs.{log_fields, log_cell}
use Rattle.sentry_records.specs.Metrics.{metric_fields, metric_cell}
use Rattle.sentry_records.specs.Sessions.{group_fields, group_cell, groups_fields, groups_cell}
use Rattle.sentry_records.specs.declared.log.Log.{Log}
use Rattle.sentry_records.specs.declared.log_attribute.LogAttribute.{LogAttribute}
use Rattle.sentry_records.specs.declared.metric.Metric.{Metric}
use Rattle.sentry_records.specs.declared.session_aggregate_item.SessionAggregateItem.{SessionAggregateItem}
use Rattle.sentry_records.specs.declared.session_aggregates.SessionAggregates.{SessionAggregates}
use Rattle.sentry_records.proofs.Equal.{cells_in, nth, row}
use Rattle.sentry_reports.specs.Categories.{category_of, category_word, reason_of, reason_word}
use Rattle.sentry_reports.specs.ItemTable.{item_fields, item_cell}
use Rattle.sentry_reports.specs.Reports.{report_fields, report_cell}
use Rattle.sentry_reports.specs.declared.category.Category.{Category}
use Rattle.sentry_reports.specs.declared.category.Category.TheVariants as category
use Rattle.sentry_reports.specs.declared.item.Item.{Item}
use Rattle.sentry_reports.specs.declared.reason.Reason.{Reason}
use Rattle.sentry_reports.specs.declared.report.Report.{Report}
use Rattle.sentry_reports.proofs.Words.{category_word_back, reason_word_back}
use Rattle.sentry_items.specs.Containers.{items_cell}
use Rattle.sentry_items.specs.Losses.{loss, losses_of_groups, losses_of_item, losses_of_logs, losses_of_metrics, losses_of_report, losses_of_transaction}
use Rattle.sentry_items.specs.Sizes.{attribute_size, attributes_size, cut, log_size, metric_size, sessions_in}
use Rattle.sentry_items.specs.View.{item_held, kind_held}
use Rattle.sentry_items.specs.declared.container.ItemContainer.TheVariants as container
use Rattle.sentry_items.specs.declared.item.EnvelopeItem.{EnvelopeItem}
use Rattle.sentry_items.specs.declared.item.EnvelopeItem.TheVariants as item
use Rattle.sentry_items.proofs.Items.{cell_in, attached_in}

-- ---- lists of the same cells

abbrev listed : Cell → Cells
listed (sequence cs) = cs
listed _ = no_cells

same_length : {T : Type 0} (f : T → Cell) (xs ys : List T) → cells f xs ≡ cells f ys → length xs ≡ length ys
same_length f [] [] same = refl
same_length f [] (y ∷ ys) same = absurd (cc)
same_length f (x ∷ xs) [] same = absurd (cc)
same_length f (x ∷ xs) (y ∷ ys) same = ap suc (same_length f xs ys (cc))

-- sizes that cells tell
module _ {T : Type 0} (f : T → Cell) (size : T → ℕ) (told : (x y : T) → f x ≡ f y → size x ≡ size y) where
  same_sum : (xs ys : List T) → cells f xs ≡ cells f ys → sum_by size xs ≡ sum_by size ys
  same_sum [] [] same = refl
  same_sum [] (y ∷ ys) same = absurd (cc)
  same_sum (x ∷ xs) [] same = absurd (cc)
  same_sum (x ∷ xs) (y ∷ ys) same =
      omega (arith, sum_by-cons size x xs, sum_by-cons size y ys, told x y (cc), same_sum xs ys (cc))

same_attributes : (xs ys : List (String Global × LogAttribute)) → entries attribute_cell xs ≡ entries attribute_cell ys → attributes_size xs ≡ attributes_size ys
same_attributes [] [] same = refl
same_attributes [] (y ∷ ys) same = absurd (cc)
same_attributes (x ∷ xs) [] same = absurd (cc)
same_attributes (x ∷ xs) (y ∷ ys) same =
    let here : attribute_size x ≡ attribute_size y = cc in
    omega (arith, sum_by-cons attribute_size x xs, sum_by-cons attribute_size y ys, here, same_attributes xs ys (cc))

-- ---- what cells tell of each type

group_told : (a b : SessionAggregateItem) → group_cell a ≡ group_cell b → sessions_in a ≡ sessions_in b
unfolding group_fields
group_told a b same = cc

groups_lose : (a b : SessionAggregates) → groups_cell a ≡ groups_cell b → losses_of_groups a ≡ losses_of_groups b
unfolding groups_fields
groups_lose a b same =
    ap (λ n. loss category.Session (cut n) ∷ []) (same_sum group_cell sessions_in group_told a.aggregates.items b.aggregates.items (cc))

transactions_lose : (a b : Transaction) → transaction_cell a ≡ transaction_cell b → losses_of_transaction a ≡ losses_of_transaction b
unfolding transaction_fields nth cells_in
transactions_lose a b same =
    ap (λ n. loss category.Transaction 1 ∷ loss category.Span (n + 1) ∷ []) (same_length span_cell a.spans.items b.spans.items (ap listed (row 9 _ _ same)))

log_told : (a b : Log) → log_cell a ≡ log_cell b → log_size a ≡ log_size b
unfolding log_fields
log_told a b same = let attributes = same_attributes a.attributes.entries b.attributes.entries (cc) in cc

metric_told : (a b : Metric) → metric_cell a ≡ metric_cell b → metric_size a ≡ metric_size b
unfolding metric_fields
metric_told a b same = let attributes = same_attributes a.attributes.entries b.attributes.entries (cc) in cc

logs_lose : (xs ys : List Log) → items_cell log_cell xs ≡ items_cell log_cell ys → losses_of_logs xs ≡ losses_of_logs ys
logs_lose xs ys same =
    let many = same_length log_cell xs ys (cc) in
    let large = same_sum log_cell log_size log_told xs ys (cc) in
    cc

metrics_lose : (xs ys : List Metric) → items_cell metric_cell xs ≡ items_cell metric_cell ys → losses_of_metrics xs ≡ losses_of_metrics ys
metrics_lose xs ys same =
    let many = same_length metric_cell xs ys (cc) in
    let large = same_sum metric_cell metric_size metric_told xs ys (cc) in
    cc

-- ---- reports

one_category : (a b : Category) → category_word a ≡ category_word b → a ≡ b
one_category a b same = same_Some a b (sym (category_word_back a) ∙ (ap category_of same ∙ category_word_back b))

one_reason : (a b : Reason) → reason_word a ≡ reason_word b → a ≡ b
one_reason a b same = same_Some a b (sym (reason_word_back a) ∙ (ap reason_of same ∙ reason_word_back b))

one_item : (a b : Item) → item_cell a ≡ item_cell b → a ≡ b
unfolding item_fields
one_item a b same =
    let category = one_category a.category b.category (cc) in
    let reason = one_reason a.reason b.reason (cc) in
    let quantity : a.quantity ≡ b.quantity = cc in
    λ i. record { category = category i; reason = reason i; quantity = quantity i }

same_items : (xs ys : List Item) → cells item_cell xs ≡ cells item_cell ys → xs ≡ ys
same_items [] [] same = refl
same_items [] (y ∷ ys) same = absurd (cc)
same_items (x ∷ xs) [] same = absurd (cc)
same_items (x ∷ xs) (y ∷ ys) same =
    let first = one_item x y (cc) in
    let others = same_items xs ys (cc) in
    cc

reports_lose : (a b : Report) → report_cell a ≡ report_cell b → losses_of_report a ≡ losses_of_report b
unfolding report_fields
reports_lose a b same = let items = same_items a.items b.items (cc) in cc

-- ---- items

pub same_losses : (a b : EnvelopeItem) → item_held a ≡ item_held b → losses_of_item a ≡ losses_of_item b
same_losses (item.SessionAggregates a) (item.SessionAggregates b) same = groups_lose a b (ap cell_in same)
same_losses (item.Transaction a) (item.Transaction b) same = transactions_lose a.value b.value (ap cell_in same)
same_losses (item.Attachment a) (item.Attachment b) same =
    ap (λ (v : List ℕ). loss category.Attachment (length v) ∷ []) (ap (λ x. (attached_in x (record { buffer = a.buffer.items; filename = []; content_type = None; ty = None })).buffer) same)
same_losses (item.ItemContainer (container.Logs a)) (item.ItemContainer (container.Logs b)) same = logs_lose a.items b.items (ap cell_in same)
same_losses (item.ItemContainer (container.Metrics a)) (item.ItemContainer (container.Metrics b)) same = metrics_lose a.items b.items (ap cell_in same)
same_losses (item.ClientReport a) (item.ClientReport b) same = reports_lose a b (ap cell_in same)
same_losses (item.ItemContainer (container.Logs a)) b same = let e = ap kind_held same in cc
same_losses (item.ItemContainer (container.Metrics a)) b same = let e = ap kind_held same in cc
same_losses a (item.ItemContainer (container.Logs b)) same = let e = ap kind_held same in cc
same_losses a (item.ItemContainer (container.Metrics b)) same = let e = ap kind_held same in cc
same_losses a b same = let e = ap kind_held same in cc
