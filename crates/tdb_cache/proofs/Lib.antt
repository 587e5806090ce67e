mod Cached
mod CacheLaws
