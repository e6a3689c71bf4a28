-- An ask for some records and fields of a cloud, as what it asks for.
use Rattle.std.specs.Prelude.{◌<◌, ◌≤◌, map, option_map, IfSome}
use Rattle.e57_select.specs.Asking.{most_asked, names_in}
use Rattle.e57_filter.specs.Asking.{KeepAsked, FilterAsked}
use Rattle.e57_filter.specs.declared.ask.Keep.{Keep}
use Rattle.e57_filter.specs.declared.ask.FilterAsk.{FilterAsk}

abbrev pub keep_asked : Keep → KeepAsked
keep_asked keep = record { field = keep.field.now; low = keep.low; high = keep.high }

abbrev pub filter_asked : FilterAsk → FilterAsked
filter_asked given =
    record {
      cloud = given.cloud;
      names = option_map (λ text. names_in text.now) given.fields;
      keeps = map keep_asked given.keeps.items;
      every = given.every;
      from = given.from;
      count = given.count;
    }

-- no number is above the most records, and each record or each of some is looked at
pub record IsLimitedFilter (given : FilterAsk) : Type 0 where
  pub every : 0 < given.every
  pub from : given.from ≤ most_asked
  pub count : IfSome given.count (λ n. n ≤ most_asked)
