use Rattle.std.proofs.Common.{◌≡◌, option_map, rules}
use Rattle.pool_sql.specs.declared.setting.Setting.TheVariants as setting
use Rattle.pool_sql.proofs.printing.pool_settings.Goals as goal

pub returns : goal.returns
returns c =
    let change = c.args.change.now in
    let memory : c.map.result ≡ option_map (λ x. setting.MemorySize x) change.memory = search rules in
    let max : c.map-2.result ≡ option_map (λ x. setting.MaxMemorySize x) change.max = search rules in
    let query_max : c.map-3.result ≡ option_map (λ x. setting.MaxQueryMemorySize x) change.query_max = search rules in
    let parallel : c.map-4.result ≡ option_map (λ x. setting.ExecutionParallelism x) change.parallel = search rules in
    let priority : c.map-5.result ≡ option_map (λ x. setting.Priority x) change.priority = search rules in
    let runtime_priority : c.map-6.result ≡ option_map (λ x. setting.RuntimePriority x) change.runtime_priority = search rules in
    let threshold_s : c.map-7.result ≡ option_map (λ x. setting.RuntimePriorityThreshold x) change.threshold_s = search rules in
    let queue_ms : c.map-8.result ≡ option_map (λ x. setting.QueueTimeout x) change.queue_ms = search rules in
    let planned : c.map-9.result ≡ option_map (λ x. setting.PlannedConcurrency x) change.planned = search rules in
    let concurrency : c.map-10.result ≡ option_map (λ x. setting.MaxConcurrency x) change.concurrency = search rules in
    let cap_ms : c.map-11.result ≡ option_map (λ x. setting.RuntimeCap x) change.cap_ms = search rules in
    let cascade : c.map-12.result ≡ option_map (λ x. setting.Cascade x) change.cascade = search rules in
    cc
