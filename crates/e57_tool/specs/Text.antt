-- `--help` and `--version`: the texts that are put.
use Rattle.std.specs.Prelude.{ℕ, List, ◌++◌, false, codes}
use Rattle.e57_tool.specs.Run.{Promise}
use Rattle.e57_tool.specs.Putting.{putting}

-- the commands, and then the statuses, one a line
abbrev pub help_text : List ℕ
help_text =
    codes "e57 pages FILE   test the checksums of all pages\n"
    ++ codes "e57 info FILE    show the element tree\n"
    ++ codes "e57 list FILE    list the clouds with their fields, and the blobs\n"
    ++ codes "e57 check FILE   judge the whole file\n"
    ++ codes "e57 blob FILE K  write the bytes of blob K\n"
    ++ codes "e57 extract FILE CLOUD [--fields=A,B] [--from=I] [--count=N] [--decimal=yes]  write records as rows\n"
    ++ codes "e57 repack IN OUT [--chunk=N] [--tight=yes]  write an accepted file anew\n"
    ++ codes "e57 filter IN OUT CLOUD [--fields=A,B] [--keep=FIELD:LOW:HIGH].. [--every=K] [--from=I] [--count=N]  write some of a cloud\n"
    ++ codes "e57 trial START COUNT  make two files of COUNT records in memory, check and read them\n"
    ++ codes "e57 --help       show this text, as -h does\n"
    ++ codes "e57 --version    show the version\n"
    ++ codes "status 0   done\n"
    ++ codes "status 1   the file has a fault\n"
    ++ codes "status 2   the words are no valid command\n"
    ++ codes "status 3   the file couldn't be opened or read\n"
    ++ codes "status 4   the output couldn't be written\n"
    ++ codes "status 5   out of memory\n"
    ++ codes "status 6   the file doesn't have what was asked for\n"

abbrev pub version_text : List ℕ
version_text = codes "e57 0.1.0\n"

abbrev pub help_promise : Promise
help_promise = putting false help_text

abbrev pub version_promise : Promise
version_promise = putting false version_text
