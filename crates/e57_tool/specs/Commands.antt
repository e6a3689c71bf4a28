-- What each command promises.
use Rattle.e57_tool.specs.Words.{Command, HelpAsked, VersionAsked, PagesOf, InfoOf, ListOf, CheckOf, BlobOf, ExtractOf, RepackOf, FilterOf, TrialOf}
use Rattle.e57_tool.specs.Run.{Promise}
use Rattle.e57_tool.specs.Text.{help_promise, version_promise}
use Rattle.e57_tool.specs.Pages.{pages_promise}
use Rattle.e57_tool.specs.Show.{info_promise, list_promise}
use Rattle.e57_tool.specs.Check.{check_promise}
use Rattle.e57_tool.specs.Blob.{blob_promise}
use Rattle.e57_tool.specs.Extract.{extract_promise}
use Rattle.e57_tool.specs.Repack.{repack_promise}
use Rattle.e57_tool.specs.Filter.{filter_promise}
use Rattle.e57_tool.specs.Trial.{trial_promise}

abbrev pub promise_of : Command → Promise
promise_of HelpAsked = help_promise
promise_of VersionAsked = version_promise
promise_of (PagesOf file) = pages_promise file
promise_of (InfoOf file) = info_promise file
promise_of (ListOf file) = list_promise file
promise_of (CheckOf file) = check_promise file
promise_of (BlobOf file k) = blob_promise file k
promise_of (ExtractOf file what) = extract_promise file what
promise_of (RepackOf file made chunk is_tight) = repack_promise file made chunk is_tight
promise_of (FilterOf file made what) = filter_promise file made what
promise_of (TrialOf start count) = trial_promise start count
